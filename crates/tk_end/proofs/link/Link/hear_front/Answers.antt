use Rattle.std.proofs.Common.{refl, subst, sym, IfSome, Option}
use Rattle.tk_end.specs.declared.hearing.Heard.{Heard}
use Rattle.tk_end.specs.Hearing.{TakesOnce}
use Rattle.tk_end.proofs.LinkLemmas.{hears_nothing, taken_or_same, where_none, where_some}
use Rattle.tk_end.proofs.link.Link.hear_front.Goals as goal
use Rattle.tk_end.proofs.link.Link.hear_front.Goals.{in-None, in-None-2, in-Some-Part, in-Some-Refused, in-Some-Bad, in-Some-NoMemory}

pub returns-clause-hears : goal.returns-clause-hears
returns-clause-hears g c =
    let took = c.take_front in
    let old = c.self.inside.inbox in
    let takes = taken_or_same g.A.Actor.refusal_of g.A.Actor.after g.A.Actor.heard g.A.Actor.said c.args.peer.0 old.version old.unread took.new.inbox.unread c.args.actor.now took.new.actor took.result took.ensures.takes took.ensures.same in
    rw (← c.self.view_is) (hears_nothing g.A.Actor.refusal_of g.A.Actor.after g.A.Actor.heard g.A.Actor.said c.args.peer.0 _ _ c.args.actor.now took.new.actor (record { tells = refl; version = took.ensures.version; output = refl; written = refl; shut = refl }) refl refl takes)

pub returns-clause-once : goal.returns-clause-once
returns-clause-once g c =
    let Once : Option (Heard g.row.A-Refusal.Denot) → Type 0 = λ r. IfSome r (TakesOnce g.A.Actor.refusal_of g.A.Actor.after c.args.peer.0 c.args.actor.now c.take_front.new.actor) in
    let took = c.take_front in
    elim c.match-take_front.branch [
      | in-None w ↦ subst Once (sym w.result-is) (where_none took.result _ w.in-None.is took.ensures.one)
      | in-None-2 w ↦ subst Once (sym w.result-is) (where_none took.result _ w.in-None.is took.ensures.one)
      | in-Some-Part w ↦ subst Once (sym w.result-is) tt
      | in-Some-Refused w ↦ subst Once (sym w.result-is) (where_some took.result _ _ w.in-Some-Refused.is took.ensures.same).1
      | in-Some-Bad w ↦ subst Once (sym w.result-is) (where_some took.result _ _ w.in-Some-Bad.is took.ensures.same).1
      | in-Some-NoMemory w ↦ subst Once (sym w.result-is) (where_some took.result _ _ w.in-Some-NoMemory.is took.ensures.same).1
    ]
