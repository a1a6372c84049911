use Rattle.std.proofs.Common.{subst, ◌∙◌}
use Rattle.tk_end.specs.Hearing.{Takes}
use Rattle.tk_end.proofs.HearingLemmas.{takes_on}
use Rattle.tk_end.proofs.taking.take_all.Goals as goal

pub loop-peer-preserved : goal.loop-peer-preserved
loop-peer-preserved g c =
    let before = c.loop-peer in
    let step = subst (λ v. Takes g.A.Actor.refusal_of g.A.Actor.after g.A.Actor.heard g.A.Actor.said c.args.peer.0 v before.inbox.unread c.take_front.new.inbox.unread before.actor c.take_front.new.actor) before.invariant.1 c.in_default.ensures.takes in
    (takes_on g.A.Actor.refusal_of g.A.Actor.after g.A.Actor.heard g.A.Actor.said c.args.peer.0 c.args.inbox.now.version c.args.inbox.now.unread before.inbox.unread _ c.args.actor.now before.actor _ before.invariant.0 step, c.take_front.ensures.version ∙ before.invariant.1, c.take_front.ensures.peer)
