use Rattle.std.proofs.Common.{refl, ◌∙◌, length, ap, arith}
use Rattle.tk_wire.specs.Meanings.{Counts}
use Rattle.tk_end.proofs.HearingLemmas.{takes_nothing}
use Rattle.tk_end.proofs.LinkLemmas.{hears_nothing, hears_on, hears_then_pulled, keeps_refl, part_is_short, pulled_longer}
use Rattle.tk_end.proofs.link.Link.hear_one.Goals as goal

pub loop-heard-init : goal.loop-heard-init
loop-heard-init g c =
    let here = c.args.self.now in (
      hears_nothing g.A.Actor.refusal_of g.A.Actor.after g.A.Actor.heard g.A.Actor.said c.args.peer.0 here here c.args.actor.now c.args.actor.now (keeps_refl here) refl refl (takes_nothing g.A.Actor.refusal_of g.A.Actor.after g.A.Actor.heard g.A.Actor.said c.args.peer.0 here.version here.unread c.args.actor.now),
      refl,
      refl,
      refl,
      c.requires.peer,
    )

pub returns-in-Some-clause-hears : goal.returns-in-Some-clause-hears
returns-in-Some-clause-hears g c =
    let before = c.loop-heard in
    hears_on g.A.Actor.refusal_of g.A.Actor.after g.A.Actor.heard g.A.Actor.said c.args.peer.0 0 0 0 c.args.self.now before.self c.hear_front.new.self c.args.actor.now before.actor c.hear_front.new.actor (omega arith) before.invariant.0 c.hear_front.ensures.hears

-- what is no frame is short, and a piece came behind it
pub loop-heard-smaller : goal.loop-heard-smaller
loop-heard-smaller g c =
    let short = part_is_short c.hear_front.new.self.version c.hear_front.new.self.unread c.in_default.ensures.part in
    let longer = pulled_longer _ c.hear_front.new.self.tells c.hear_front.new.self.unread c.pull.new.self.unread c.hear_front.new.self.traffic c.pull.new.self.traffic c.in-Got.ensures.pulls in
    omega (arith, short, longer, ap length c.in_default.ensures.none.0)

pub loop-heard-preserved : goal.loop-heard-preserved
loop-heard-preserved g c =
    let before = c.loop-heard in
    let none = c.in_default.ensures in
    let counts = c.in-Got.ensures.counted in
    let same = c.hear_front.ensures.counts in (
      hears_then_pulled g.A.Actor.refusal_of g.A.Actor.after g.A.Actor.heard g.A.Actor.said c.args.peer.0 c.pull.result c.args.self.now before.self c.hear_front.new.self c.pull.new.self c.args.actor.now before.actor c.hear_front.new.actor before.invariant.0 c.hear_front.ensures.hears c.pull.ensures.pulls c.pull.ensures.counted c.pull.ensures.keeps,
      none.none.1 ∙ before.invariant.1,
      ap (λ (k : Counts). k.faults) counts ∙ ap (λ (k : Counts). k.faults) same ∙ before.invariant.2,
      ap (λ (k : Counts). k.ends) counts ∙ ap (λ (k : Counts). k.ends) same ∙ before.invariant.3,
      c.hear_front.ensures.peer,
    )

pub returns-in-NotYet-clause-hears : goal.returns-in-NotYet-clause-hears
returns-in-NotYet-clause-hears g c = hears_then_pulled g.A.Actor.refusal_of g.A.Actor.after g.A.Actor.heard g.A.Actor.said c.args.peer.0 c.pull.result c.args.self.now c.loop-heard.self c.hear_front.new.self c.pull.new.self c.args.actor.now c.loop-heard.actor c.hear_front.new.actor c.loop-heard.invariant.0 c.hear_front.ensures.hears c.pull.ensures.pulls c.pull.ensures.counted c.pull.ensures.keeps

pub returns-in-End-clause-hears : goal.returns-in-End-clause-hears
returns-in-End-clause-hears g c = hears_then_pulled g.A.Actor.refusal_of g.A.Actor.after g.A.Actor.heard g.A.Actor.said c.args.peer.0 c.pull.result c.args.self.now c.loop-heard.self c.hear_front.new.self c.pull.new.self c.args.actor.now c.loop-heard.actor c.hear_front.new.actor c.loop-heard.invariant.0 c.hear_front.ensures.hears c.pull.ensures.pulls c.pull.ensures.counted c.pull.ensures.keeps

pub returns-in-Failed-clause-hears : goal.returns-in-Failed-clause-hears
returns-in-Failed-clause-hears g c = hears_then_pulled g.A.Actor.refusal_of g.A.Actor.after g.A.Actor.heard g.A.Actor.said c.args.peer.0 c.pull.result c.args.self.now c.loop-heard.self c.hear_front.new.self c.pull.new.self c.args.actor.now c.loop-heard.actor c.hear_front.new.actor c.loop-heard.invariant.0 c.hear_front.ensures.hears c.pull.ensures.pulls c.pull.ensures.counted c.pull.ensures.keeps

pub returns-in-NoMemory-clause-hears : goal.returns-in-NoMemory-clause-hears
returns-in-NoMemory-clause-hears g c = hears_then_pulled g.A.Actor.refusal_of g.A.Actor.after g.A.Actor.heard g.A.Actor.said c.args.peer.0 c.pull.result c.args.self.now c.loop-heard.self c.hear_front.new.self c.pull.new.self c.args.actor.now c.loop-heard.actor c.hear_front.new.actor c.loop-heard.invariant.0 c.hear_front.ensures.hears c.pull.ensures.pulls c.pull.ensures.counted c.pull.ensures.keeps
