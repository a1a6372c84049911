use Rattle.std.proofs.Common.{ap, arith}
use Rattle.tk_hub.proofs.seats.Seats.shut.Goals as goal

pub shut_at-requires : goal.shut_at-requires
shut_at-requires g c =
    let monitors = ap (λ v. v.coordinator.settings.monitors) c.loop-place.invariant.0 in
    record { from_one = omega arith; within = omega (arith, c.loop-place-test.true, c.monitors-place-end.ensures.value, monitors) }

pub returns-clause-rest : goal.returns-clause-rest
returns-clause-rest g c = c.loop-place.invariant.0
