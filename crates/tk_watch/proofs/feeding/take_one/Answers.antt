use Rattle.std.proofs.Common.{[], ◌∷◌, sym, subst}
use Rattle.tk_stream.specs.declared.item.Item.{Item}
use Rattle.tk_watch.specs.Each.{Stops}
use Rattle.tk_watch.specs.Windows.{run_on, window_of}
use Rattle.tk_watch.proofs.TakingLemmas.{stops_record}
use Rattle.tk_watch.proofs.feeding.take_one.Goals as goal

pub returns-in-Some-clause-stops : goal.returns-in-Some-clause-stops
returns-in-Some-clause-stops g c =
    let s = c.args.watched.now in
    let then = c.tell-told.new.self in
    subst (λ (item : Item). Stops s.watch c.args.f (run_on (window_of s.windows c.args.f.0) (item ∷ [])).told c.in-Some.untold then.windows then.watch) (sym c.in-Record.is)
    (stops_record s.watch then.watch s.windows then.windows c.args.f c.in-Record.change c.tell-told.result c.in-Some.untold (sym c.in-Some.ensures) c.tell-told.ensures.tells c.tell-told.ensures.notes)
