use Rattle.std.proofs.Common.{ap, sym, ◌∙◌}
use Rattle.tk_input.specs.declared.event.Event.{Event}
use Rattle.tk_session.specs.Sessions.{with_line}
use Rattle.tk_session.specs.declared.session_line.SessionLine.{SessionLine}
use Rattle.tk_session.specs.declared.session_line.SessionLine.TheVariants.{Step}
use Rattle.tk_session.proofs.SessionLemmas.{took_step}
use Rattle.tk_session.proofs.sessions.Sessions.take.Goals as goal

pub returns-in_ok-step-in-Step-clause-ok : goal.returns-in_ok-step-in-Step-clause-ok
returns-in_ok-step-in-Step-clause-ok c =
    let old = c.args.self.now in
    took_step old c.step.new.self c.in_ok-try_clone-in-Step.field-0 c.in_ok-step-in-Step.field-0 c.in_ok-step-in-Step.ensures.ok c.step.ensures.past
    ∙ ap (λ (e : Event). with_line old (Step e)) c.in_ok-try_clone-in-Step.ensures
    ∙ ap (λ (line : SessionLine). with_line old line) (sym c.in-Step.is)
