use Rattle.std.proofs.Common.{◌≡◌, ◌-◌, length}
use Rattle.tk_end.specs.Hearing.{Hears}
use Rattle.tk_end.proofs.link.Link.hear_one.Given as goal

-- only pieces came, and the wire neither failed nor ended
abbrev pub invariant-loop-heard : goal.invariant-loop-heard
invariant-loop-heard g l =
    Hears g.A.Actor.refusal_of g.A.Actor.after g.A.Actor.heard g.A.Actor.said l.peer.0 0 l.initial.self l.self l.initial.actor l.actor
    × (l.actor ≡ l.initial.actor)
    × (l.self.counts.faults ≡ l.initial.self.counts.faults)
    × (l.self.counts.ends ≡ l.initial.self.counts.ends)
    × g.A.Actor.IsPeer l.peer.0 l.actor

abbrev pub decreases-loop-heard : goal.decreases-loop-heard
decreases-loop-heard g l = 2097156 - length l.self.unread
