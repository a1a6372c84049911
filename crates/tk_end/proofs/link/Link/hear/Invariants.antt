use Rattle.std.proofs.Common.{◌≡◌, ◌≤◌, ◌-◌}
use Rattle.tk_end.specs.Hearing.{Hears}
use Rattle.tk_end.proofs.link.Link.hear.Given as goal

-- so many pieces came, and the wire neither failed nor ended
abbrev pub invariant-loop-pieces : goal.invariant-loop-pieces
invariant-loop-pieces g l =
    Hears g.A.Actor.refusal_of g.A.Actor.after g.A.Actor.heard g.A.Actor.said l.peer.0 l.pieces l.initial.self l.self l.initial.actor l.actor
    × (l.self.counts.faults ≡ l.initial.self.counts.faults)
    × (l.self.counts.ends ≡ l.initial.self.counts.ends)
    × g.A.Actor.IsPeer l.peer.0 l.actor
    × (l.pieces ≤ 64)

abbrev pub decreases-loop-pieces : goal.decreases-loop-pieces
decreases-loop-pieces g l = 64 - l.pieces
