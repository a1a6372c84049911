use Rattle.std.proofs.Common.{◌≡◌, ◌-◌, length}
use Rattle.tk_end.specs.Link.{Says}
use Rattle.tk_end.proofs.link.Link.write.Given as goal

-- the frames up to the place are written, and nothing else is changed
abbrev pub invariant-loop-place : goal.invariant-loop-place
invariant-loop-place g l =
    Says (g.A.Actor.said l.peer.0 l.actor) l.initial.self l.self
    × (l.self ≡ record l.initial.self { output = l.self.output; written = l.self.written })
    × (l.place ≡ l.self.written)
    × (l.count ≡ length (g.A.Actor.said l.peer.0 l.actor))

abbrev pub decreases-loop-place : goal.decreases-loop-place
decreases-loop-place g l = l.count - l.place
