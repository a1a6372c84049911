use Rattle.std.proofs.Common.{Result, sym, subst, ◌∙◌}
use Rattle.std.proofs.lemmas.Result.{err_from_is_err_and}
use Rattle.tk_input.specs.declared.order.OrderFault.{OrderFault}
use Rattle.tk_multi.specs.Order.{IsFault, MultiOrderView, line_added}
use Rattle.tk_multi.proofs.OrderLemmas.{event_fault}
use Rattle.tk_multi.proofs.order.MultiOrder.read.Goals as goal
use Rattle.tk_input.proofs.ThroughLemmas.{through-none, through-some}

pub loop-number-preserved : goal.loop-number-preserved
loop-number-preserved c =
    let before : MultiOrderView = record { events = c.loop-number.events.items; lines = c.loop-number.lines.items } in
    let after : MultiOrderView = record { events = c.take_line.new.events.items; lines = c.take_line.new.lines.items } in
    record {
      same = sym (through-some line_added before after (c.in-Some.number, c.in-Some.line.now) c.next.new.self c.loop-number.left c.in-Some.ensures.some c.in_ok-take_line.ensures.ok)
          ∙ c.loop-number.invariant.same;
      pairs = c.in_ok-take_line.ensures.pairs c.loop-number.invariant.pairs;
    }

pub returns-in_err-take_line-clause-err : goal.returns-in_err-take_line-clause-err
returns-in_err-take_line-clause-err c =
    let before : MultiOrderView = record { events = c.loop-number.events.items; lines = c.loop-number.lines.items } in
    let given = err_from_is_err_and c.from_residual.result c.from_residual.ensures.1 in
    rw (given.1, given.2)
    (subst (λ (r : Result MultiOrderView OrderFault). IsFault c.in_err-take_line.field-0.0 r) c.loop-number.invariant.same
    (event_fault before (c.in-Some.number, c.in-Some.line.now) c.next.new.self c.loop-number.left c.in_err-take_line.field-0.0 c.in-Some.ensures.some c.in_err-take_line.ensures.err))

pub returns-clause-ok : goal.returns-clause-ok
returns-clause-ok c =
    let before : MultiOrderView = record { events = c.loop-number.events.items; lines = c.loop-number.lines.items } in
    sym c.loop-number.invariant.same ∙ through-none line_added before c.loop-number.left (c.next.ensures.none c.in_default.is)
