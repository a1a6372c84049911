use Rattle.std.proofs.Common.{◌≡◌, ◌-◌, ℕ, List, get_or, sym, ap}
use Rattle.tk_watch.proofs.EndsLemmas.{ends_at}
use Rattle.tk_watch.proofs.cell.Watched.note_end.Goals as goal

pub invariant_of-self : goal.invariant_of-self
invariant_of-self g c =
    let s = c.args.self.now in
    let place : get_or c.counts.result.now (c.args.f.0 - 1) 0 ≡ get_or s.watch.counts (c.args.f.0 - 1) 0 = ap (λ (ns : List ℕ). get_or ns (c.args.f.0 - 1) 0) c.counts.ensures.value in
    record {
      named_is = s.named_is;
      are_windows = s.are_windows;
      balanced = s.balanced;
      are_ends = ends_at _ s.watch s.windows s.ends c.note.new.self c.args.f.0 _ c.requires.from_one s.named_is c.counts.ensures.kept s.are_windows s.balanced s.are_ends c.requires.at_end (sym place) c.note.ensures;
    }
