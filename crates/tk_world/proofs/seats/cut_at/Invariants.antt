use Rattle.std.proofs.Common.{◌≡◌, map, take}
use Rattle.tk_world.specs.Seats.{places_in}
use Rattle.tk_world.proofs.seats.cut_at.Given as goal

-- the places of the seats passed
abbrev pub invariant-loop-j : goal.invariant-loop-j
invariant-loop-j g l = l.list.items ≡ map places_in (take l.j (g.N.Nodes.seen l.nodes).seats)
