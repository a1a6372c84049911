use Rattle.std.proofs.Common.{refl, ◌+◌, ◌∙◌, arith}
use Rattle.tk_end.specs.Hearing.{least_of}
use Rattle.tk_end.proofs.HearingLemmas.{takes_nothing}
use Rattle.tk_end.proofs.LinkLemmas.{hears_nothing, hears_on, keeps_refl, pieces_are_few}
use Rattle.tk_end.proofs.link.Link.hear.Goals as goal

pub loop-pieces-init : goal.loop-pieces-init
loop-pieces-init g c =
    let here = c.args.self.now in (
      hears_nothing g.A.Actor.refusal_of g.A.Actor.after g.A.Actor.heard g.A.Actor.said c.args.peer.0 here here c.args.actor.now c.args.actor.now (keeps_refl here) refl refl (takes_nothing g.A.Actor.refusal_of g.A.Actor.after g.A.Actor.heard g.A.Actor.said c.args.peer.0 here.version here.unread c.args.actor.now),
      refl,
      refl,
      c.requires,
      omega arith,
    )

pub returns-in-Some-clause-hears : goal.returns-in-Some-clause-hears
returns-in-Some-clause-hears g c =
    let before = c.loop-pieces in
    hears_on g.A.Actor.refusal_of g.A.Actor.after g.A.Actor.heard g.A.Actor.said c.args.peer.0 (least_of c.in-Some.heard) before.pieces 0 c.args.self.now before.self c.hear_piece.new.self c.args.actor.now before.actor c.hear_piece.new.actor (omega (arith, c.in-Some.ensures.no_more)) before.invariant.0 c.in-Some.ensures.some

pub loop-pieces-preserved : goal.loop-pieces-preserved
loop-pieces-preserved g c =
    let before = c.loop-pieces in
    let counted = c.in_default.ensures.counted in (
      hears_on g.A.Actor.refusal_of g.A.Actor.after g.A.Actor.heard g.A.Actor.said c.args.peer.0 (before.pieces + 1) before.pieces 1 c.args.self.now before.self c.hear_piece.new.self c.args.actor.now before.actor c.hear_piece.new.actor (omega arith) before.invariant.0 c.in_default.ensures.none,
      counted.0 ∙ before.invariant.1,
      counted.1 ∙ before.invariant.2,
      c.hear_piece.ensures.peer,
      omega arith,
    )

pub returns-clause-hears : goal.returns-clause-hears
returns-clause-hears g c =
    let before = c.loop-pieces in
    hears_on g.A.Actor.refusal_of g.A.Actor.after g.A.Actor.heard g.A.Actor.said c.args.peer.0 (least_of c.hear_whole.result) before.pieces 0 c.args.self.now before.self c.hear_whole.new.self c.args.actor.now before.actor c.hear_whole.new.actor (omega (arith, pieces_are_few c.hear_whole.result)) before.invariant.0 c.hear_whole.ensures.hears
