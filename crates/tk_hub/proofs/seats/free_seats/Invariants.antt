use Rattle.std.proofs.Common.{◌≡◌, ◌≤◌, None, replicate, vec_capacity}
use Rattle.tk_hub.proofs.seats.free_seats.Given as goal

-- so many seats are free, and there is room for the others
abbrev pub invariant-loop : goal.invariant-loop
invariant-loop g l = record {
  free : l.seats.items ≡ replicate l.counter None;
  room : l.fn.count ≤ vec_capacity l.seats;
}
