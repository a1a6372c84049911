use Rattle.std.proofs.Common.{ℕ, List, Result, refl, sym, subst, ◌∙◌}
use Rattle.std.proofs.lemmas.Result.{err_from_is_err_and}
use Rattle.tk_input.specs.Order.{IsFault}
use Rattle.tk_input.specs.declared.order.OrderFault.{OrderFault}
use Rattle.tk_session.specs.declared.session_line.SessionLine.{SessionLine}
use Rattle.tk_session.proofs.OrderLemmas.{line_fault, line_next, no_line}
use Rattle.tk_session.proofs.session_order.SessionOrder.read.Goals as goal

pub loop-number-preserved : goal.loop-number-preserved
loop-number-preserved c =
    sym (line_next c.loop-number.order c.take.new.self (c.in-Some.number, c.in-Some.line.now) c.loop-number.left c.next.new.self c.in-Some.ensures.some c.in_ok-take.ensures.ok)
    ∙ c.loop-number.invariant

pub returns-in_err-take-clause-err : goal.returns-in_err-take-clause-err
returns-in_err-take-clause-err c =
    let fault = line_fault c.loop-number.order (c.in-Some.number, c.in-Some.line.now) c.loop-number.left c.next.new.self c.in_err-take.field-0.0 c.in-Some.ensures.some c.in_err-take.ensures.err in
    let given = err_from_is_err_and c.from_residual.result c.from_residual.ensures.1 in
    rw (given.1, given.2)
    (subst (λ (r : Result (List (ℕ × SessionLine)) OrderFault). IsFault c.in_err-take.field-0.0 r) c.loop-number.invariant fault)

pub returns-clause-ok : goal.returns-clause-ok
returns-clause-ok c =
    sym c.loop-number.invariant ∙ no_line c.loop-number.order c.loop-number.left (c.in_default.ensures.none refl)
