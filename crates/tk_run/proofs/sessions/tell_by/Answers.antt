use Rattle.std.proofs.Common.{◌≡◌, ◌∙◌, ℕ, List, Option, None, IfOk, ap, subst, sym}
use Rattle.tk_session.specs.Chain.{IsChainOf}
use Rattle.tk_session.specs.declared.session_line.SessionLine.{SessionLine}
use Rattle.tk_run.specs.Sessions.{lines_in}
use Rattle.tk_run.proofs.SessionsLemmas.{empty_order}
use Rattle.tk_run.proofs.sessions.tell_by.Goals as goal
use Rattle.tk_load.proofs.RetuneLemmas.{none_of}

pub returns-in-Ok : goal.returns-in-Ok
returns-in-Ok c =
    let none : c.args.order ≡ None = none_of c.args.order c.in_default.not-Some in
    subst (λ (lines : List SessionLine). IfOk c.tell-in-Ok.result (λ stories. IsChainOf c.args.settings c.args.logs lines stories.items))
    (empty_order c.in-Ok.order c.in-Ok.ensures.ok ∙ ap (λ (o : Option (List (ℕ × SessionLine))). lines_in o) (sym none)) c.tell-in-Ok.ensures
