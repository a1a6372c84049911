use Rattle.std.proofs.Common.{◌≡◌, ◌+◌, ◌<◌, ℕ, true}
use Rattle.tk_world.specs.Seats.{is_resting_at}
use Rattle.tk_world.specs.Work.{has}
use Rattle.tk_world.specs.declared.seat.Seat.{Seat}
use Rattle.tk_world.proofs.seats.are_at_rest.Given as goal

-- the seats passed that are of the set are at rest
abbrev pub invariant-loop-j : goal.invariant-loop-j
invariant-loop-j g l = (k : ℕ) (d : Seat) → k < l.j → has l.work (k + 1) ≡ true → is_resting_at (g.N.Nodes.seen l.nodes).coordinator.journal (g.N.Nodes.seen l.nodes).seats k d ≡ true
