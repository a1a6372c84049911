use Rattle.std.proofs.Common.{◌≡◌, length}
use Rattle.tk_end.specs.Hearing.{Takes}
use Rattle.tk_end.proofs.taking.take_all.Given as goal

-- some frames are taken
abbrev pub invariant-loop-peer : goal.invariant-loop-peer
invariant-loop-peer g l =
    Takes g.A.Actor.refusal_of g.A.Actor.after g.A.Actor.heard g.A.Actor.said l.peer.0 l.initial.inbox.version l.initial.inbox.unread l.inbox.unread l.initial.actor l.actor
    × (l.inbox.version ≡ l.initial.inbox.version)
    × g.A.Actor.IsPeer l.peer.0 l.actor

abbrev pub decreases-loop-peer : goal.decreases-loop-peer
decreases-loop-peer g l = length l.inbox.unread
