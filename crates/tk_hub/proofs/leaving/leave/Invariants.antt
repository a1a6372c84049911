use Rattle.std.proofs.Common.{◌≡◌, ◌≤◌, length, vec_capacity}
use Rattle.tk_hub.specs.End.{AreCounted, AreShut, wires_of}
use Rattle.tk_hub.proofs.LeavingLemmas.{LeftUpTo}
use Rattle.tk_hub.proofs.leaving.leave.Given as goal

-- the links passed are left, in the room that was given
abbrev pub invariant-loop-seat : goal.invariant-loop-seat
invariant-loop-seat g l =
    (l.mon ≡ length l.yielded)
    × (l.wires.items ≡ wires_of l.yielded)
    × (length l.wires.items ≤ l.mon)
    × (64 ≤ vec_capacity l.wires)
    × LeftUpTo l.fn.course l.yielded l.odd
    × AreCounted g.W.Wire.counts l.yielded
    × AreShut g.W.Wire.is_shut l.yielded
