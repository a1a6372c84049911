use Rattle.std.proofs.Common.{ap, sym, ◌∙◌, subst}
use Rattle.tk_port.specs.Port.{TurnsOne}
use Rattle.tk_port.proofs.TurnLemmas.{goes, never_halts, port_concluded, turns_one_concluded}
use Rattle.tk_port.proofs.port.Port.take_one.Goals as goal

pub invariant_of-self : goal.invariant_of-self
invariant_of-self g c =
    let p = c.self.inside in
    let open_ = goes p.course (λ is. c.requires.not_halted (sym (ap (λ v. v.course) c.self.view_is) ∙ is))
    (sym c.answer.ensures ∙ c.in_default.is) in
    port_concluded p.run _ c.hear_one-turn.result p.link c.hear_one-turn.new.link c.conclude-self-inside.new.link p.side c.hear_one-turn.new.side p.course c.conclude-self-inside.result c.self.invariant open_ c.hear_one-turn.ensures.exchanges c.hear_one-turn.ensures.ends c.conclude-self-inside.ensures.shuts c.conclude-self-inside.ensures.course

pub returns-clause-kept : goal.returns-clause-kept
returns-clause-kept g c =
    let p = c.self.inside in
    let open_ = goes p.course (λ is. c.requires.not_halted (sym (ap (λ v. v.course) c.self.view_is) ∙ is))
    (sym c.answer.ensures ∙ c.in_default.is) in
    port_concluded p.run _ c.hear_one-turn.result p.link c.hear_one-turn.new.link c.conclude-self-inside.new.link p.side c.hear_one-turn.new.side p.course c.conclude-self-inside.result c.self.invariant open_ c.hear_one-turn.ensures.exchanges c.hear_one-turn.ensures.ends c.conclude-self-inside.ensures.shuts c.conclude-self-inside.ensures.course

pub returns-clause-not_halted : goal.returns-clause-not_halted
returns-clause-not_halted g c = λ is. never_halts c.hear_one-turn.result (sym c.conclude-self-inside.ensures.course ∙ is)

pub returns-clause-open : goal.returns-clause-open
returns-clause-open g c =
    let p = c.self.inside in
    let is = c.conclude-self-inside in
    let turn = c.hear_one-turn.result in
    let e = c.hear_one-turn.ensures in
    λ _. subst (λ v. TurnsOne turn v (record { run = p.run; monitor = c.hear_one-turn.new.side.monitor; link = is.new.link; course = is.result })) c.self.view_is
    (turns_one_concluded p.run turn p.link c.hear_one-turn.new.link is.new.link p.side c.hear_one-turn.new.side p.course is.result e.exchanges e.takes e.keeps e.ends e.counts is.ensures.shuts is.ensures.course)
