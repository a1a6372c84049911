use Rattle.std.proofs.Common.{subst}
use Rattle.tk_world.specs.World.{Moves}
use Rattle.tk_world.specs.declared.moved.Moved.{Moved}
use Rattle.tk_drain.proofs.BeginLemmas.{raise_begun}
use Rattle.tk_drain.proofs.LegLemmas.{err_by}
use Rattle.tk_drain.proofs.PassingLemmas.{raised_settled}
use Rattle.tk_world.specs.Events.{raise_at}
use Rattle.tk_drain.proofs.finishing.raise_one.Goals as goal

pub returns-in_err-settle-in-Yes-clause-err : goal.returns-in_err-settle-in-Yes-clause-err
returns-in_err-settle-in-Yes-clause-err g c =
    let e = raise_at c.args.mon.0 c.args.f.0 in
    err_by c.from_residual.result
    (raise_begun e c.args.world.now c.raise.new.self c.settle.new.world (subst (λ (m : Moved). Moves c.args.world.now e m c.raise.new.self) c.in-Yes.is c.raise.ensures.moves) c.in_err-settle-in-Yes.ensures.err)

pub returns-in_ok-settle-in-Yes-clause-ok : goal.returns-in_ok-settle-in-Yes-clause-ok
returns-in_ok-settle-in-Yes-clause-ok g c =
    let e = raise_at c.args.mon.0 c.args.f.0 in
    raised_settled e c.args.world.now c.raise.new.self c.settle.new.world c.in_ok-settle-in-Yes.field-0.count (subst (λ (m : Moved). Moves c.args.world.now e m c.raise.new.self) c.in-Yes.is c.raise.ensures.moves) c.in_ok-settle-in-Yes.ensures.settles
