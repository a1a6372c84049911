use Rattle.std.proofs.Common.{◌≡◌, ◌≤◌, ◌+◌, length, map, vec_capacity}
use Rattle.tk_world.specs.declared.seat.Seat.{Seat}
use Rattle.tk_world.proofs.direct.monitors_of.Given as goal

-- the monitors of the seats passed, and room for the others
abbrev pub invariant-loop-seat : goal.invariant-loop-seat
invariant-loop-seat l = record {
  monitors : l.monitors.items ≡ map (λ (seat : Seat). seat.monitor) l.yielded;
  room : length l.monitors.items + length l.seat-iterator.rest.items ≤ vec_capacity l.monitors;
}
