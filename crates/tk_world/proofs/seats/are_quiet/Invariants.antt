use Rattle.std.proofs.Common.{◌≡◌, ◌<◌, ℕ, true}
use Rattle.tk_world.specs.Seats.{is_quiet_at}
use Rattle.tk_world.specs.declared.seat.Seat.{Seat}
use Rattle.tk_world.proofs.seats.are_quiet.Given as goal

-- the seats passed are quiet
abbrev pub invariant-loop-j : goal.invariant-loop-j
invariant-loop-j g l = (k : ℕ) (d : Seat) → k < l.j → is_quiet_at (g.N.Nodes.seen l.nodes).coordinator.journal (g.N.Nodes.seen l.nodes).seats k d ≡ true
