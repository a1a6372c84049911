use Rattle.tk_watch.proofs.EndsLemmas.{end_of}
use Rattle.tk_watch.proofs.cell.Watched.end_tick.Goals as goal

pub note_end-requires-clause-at_end : goal.note_end-requires-clause-at_end
note_end-requires-clause-at_end g c =
    let s = c.args.self.now in
    let then = c.tick_over.new.self in
    end_of _ _ s.windows then.windows s.ends then.ends c.args.f.0 c.requires.from_one s.are_ends c.in-Ok.ensures.ended c.in-Ok.ensures.counted
