use Rattle.std.proofs.Common.{ℕ, List, length, ap, ◌∙◌}
use Rattle.tk_session.specs.Order.{lines_of, stretches}
use Rattle.tk_session.specs.declared.session_line.SessionLine.{SessionLine}
use Rattle.tk_session.proofs.OrderLemmas.{sessions_are}
use Rattle.tk_session.proofs.session_order.SessionOrder.sessions.Goals as goal

pub returns-clause-value : goal.returns-clause-value
returns-clause-value c =
    sessions_are c.self.inside.lines.items c.self.inside.restarts c.self.invariant.is
    ∙ ap (λ (order : List (ℕ × SessionLine)). length (stretches (lines_of order))) c.self.view_is
