use Rattle.std.proofs.Common.{◌≡◌, ◌≤◌, map}
use Rattle.std.specs.Prelude.{vec_capacity, vec_len}
use Rattle.std.specs.List.{range_with_len}
use Rattle.tk_world.specs.Nodes.{fresh_seat}
use Rattle.tk_world.proofs.seat.new_seats.Given as goal

-- the seats of the monitors passed, and room for the others
abbrev pub invariant-loop-j : goal.invariant-loop-j
invariant-loop-j l = record {
  same : l.seats.items ≡ map (fresh_seat l.settings l.logs l.from) (range_with_len 1 l.j);
  len : vec_len l.seats ≡ l.j;
  room : l.count ≤ vec_capacity l.seats;
}
