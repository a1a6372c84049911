use Rattle.std.proofs.Common.{◌-◌, ◌≡◌, ◌≤◌, take}
use Rattle.tk_wire.specs.Pipe.{with_more, without}
use Rattle.tk_wire.proofs.pipe.Pipe.move_to.Given as goal

-- the first bytes have left the one and stand at the end of the other
abbrev pub invariant-loop-moved : goal.invariant-loop-moved
invariant-loop-moved l =
    (l.moved ≤ l.count) × (l.self ≡ without l.moved l.initial.self) × (l.to ≡ with_more (take l.moved l.initial.self.bytes) l.initial.to)

abbrev pub decreases-loop-moved : goal.decreases-loop-moved
decreases-loop-moved l = l.count - l.moved
