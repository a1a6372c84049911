use Rattle.std.proofs.Common.{ap, refl, sym, subst, ◌∙◌}
use Rattle.std.proofs.lemmas.Bool.{false≢true}
use Rattle.tk_trail.specs.Readings.{is_stopped}
use Rattle.tk_port.specs.Port.{IsPort, Turns, answer_of}
use Rattle.tk_port.proofs.TurnLemmas.{answered_closed, ends_one, goes, never_halts, none_answered, port_concluded, same_turn, turns_concluded, turns_stopped}
use Rattle.tk_port.proofs.port.Port.turn.Goals as goal

pub invariant_of-self : goal.invariant_of-self
invariant_of-self g c =
    let p = c.self.inside in
    let open_ = goes p.course (λ is. c.requires (sym (ap (λ v. v.course) c.self.view_is) ∙ is))
    (sym c.answer.ensures ∙ c.in_default.is) in
    port_concluded p.run _ c.exchange-turn.result p.link c.exchange-turn.new.link c.conclude-self-inside.new.link p.side c.exchange-turn.new.side p.course c.conclude-self-inside.result c.self.invariant open_ c.exchange-turn.ensures.exchanges (ends_one c.exchange-turn.result c.exchange-turn.new.link c.exchange-turn.new.side c.exchange-turn.ensures.ends) c.conclude-self-inside.ensures.shuts c.conclude-self-inside.ensures.course

pub returns-clause-kept : goal.returns-clause-kept
returns-clause-kept g c =
    let p = c.self.inside in
    let open_ = goes p.course (λ is. c.requires (sym (ap (λ v. v.course) c.self.view_is) ∙ is))
    (sym c.answer.ensures ∙ c.in_default.is) in
    port_concluded p.run _ c.exchange-turn.result p.link c.exchange-turn.new.link c.conclude-self-inside.new.link p.side c.exchange-turn.new.side p.course c.conclude-self-inside.result c.self.invariant open_ c.exchange-turn.ensures.exchanges (ends_one c.exchange-turn.result c.exchange-turn.new.link c.exchange-turn.new.side c.exchange-turn.ensures.ends) c.conclude-self-inside.ensures.shuts c.conclude-self-inside.ensures.course

pub returns-then-stopped-clause-open : goal.returns-then-stopped-clause-open
returns-then-stopped-clause-open g c = λ open_. turns_stopped c.args.self.now open_ (ap (λ v. is_stopped v.monitor.trail) (sym c.self.view_is) ∙ sym c.stopped.ensures ∙ c.if-stopped.true)

pub returns-clause-not_halted : goal.returns-clause-not_halted
returns-clause-not_halted g c = λ is. never_halts c.exchange-turn.result (sym c.conclude-self-inside.ensures.course ∙ is)

pub returns-in-Some-clause-closed : goal.returns-in-Some-clause-closed
returns-in-Some-clause-closed g c = λ turn is. (same_turn c.in-Some.turn turn (sym c.in-Some.is ∙ c.answer.ensures ∙ ap (λ v. answer_of v.course) c.self.view_is ∙ is), refl)

pub returns-in-Some-clause-stopped : goal.returns-in-Some-clause-stopped
returns-in-Some-clause-stopped g c = λ open_ stopped. answered_closed c.in-Some.turn c.args.self.now.course (sym c.in-Some.is ∙ c.answer.ensures ∙ ap (λ v. answer_of v.course) c.self.view_is) open_

pub returns-in-Some-clause-open : goal.returns-in-Some-clause-open
returns-in-Some-clause-open g c = λ open_. answered_closed c.in-Some.turn c.args.self.now.course (sym c.in-Some.is ∙ c.answer.ensures ∙ ap (λ v. answer_of v.course) c.self.view_is) open_

pub returns-in-Some-clause-not_halted : goal.returns-in-Some-clause-not_halted
returns-in-Some-clause-not_halted g c = c.requires

pub returns-in-Some-clause-kept : goal.returns-in-Some-clause-kept
returns-in-Some-clause-kept g c = subst IsPort c.self.view_is c.self.invariant

pub returns-then-stopped-clause-closed : goal.returns-then-stopped-clause-closed
returns-then-stopped-clause-closed g c = λ turn is. none_answered turn (sym c.in_default.is ∙ c.answer.ensures ∙ ap (λ v. answer_of v.course) c.self.view_is ∙ is)

pub returns-then-stopped-clause-stopped : goal.returns-then-stopped-clause-stopped
returns-then-stopped-clause-stopped g c = λ _ _. (refl, refl)

pub returns-then-stopped-clause-not_halted : goal.returns-then-stopped-clause-not_halted
returns-then-stopped-clause-not_halted g c = c.requires

pub returns-then-stopped-clause-kept : goal.returns-then-stopped-clause-kept
returns-then-stopped-clause-kept g c = subst IsPort c.self.view_is c.self.invariant

pub returns-clause-closed : goal.returns-clause-closed
returns-clause-closed g c = λ turn is. none_answered turn (sym c.in_default.is ∙ c.answer.ensures ∙ ap (λ v. answer_of v.course) c.self.view_is ∙ is)

pub returns-clause-stopped : goal.returns-clause-stopped
returns-clause-stopped g c = λ open_ stopped. absurd (false≢true (sym c.if-stopped.false ∙ c.stopped.ensures ∙ ap (λ v. is_stopped v.monitor.trail) c.self.view_is ∙ stopped))

pub returns-clause-open : goal.returns-clause-open
returns-clause-open g c =
    let p = c.self.inside in
    let is = c.conclude-self-inside in
    let turn = c.exchange-turn.result in
    let e = c.exchange-turn.ensures in
    λ _. subst (λ v. Turns turn v (record { run = p.run; monitor = c.exchange-turn.new.side.monitor; link = is.new.link; course = is.result })) c.self.view_is
    (turns_concluded p.run turn p.link c.exchange-turn.new.link is.new.link p.side c.exchange-turn.new.side p.course is.result e.exchanges e.ends e.counts e.rest is.ensures.shuts is.ensures.course)
