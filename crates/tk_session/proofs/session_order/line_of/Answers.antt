use Rattle.std.proofs.Common.{Result, bytes_eq, codes, Some, sym, subst, ◌∙◌}
use Rattle.tk_base.specs.declared.memory.NoMemory.{NoMemory}
use Rattle.tk_input.specs.Order.{IsReadAs, event_in, words}
use Rattle.tk_input.specs.declared.event.Event.{Event}
use Rattle.tk_session.proofs.OrderLemmas.{some_step}
use Rattle.tk_session.proofs.session_order.line_of.Goals as goal

-- no memory for an event
pub returns-in-Err : goal.returns-in-Err
returns-in-Err c =
    let meant = event_in (words c.args.line.now) in
    some_step (bytes_eq c.args.line.now (codes "restart")) meant (sym c.eq.ensures ∙ c.if-eq.false)
    (subst (λ (r : Result Event NoMemory). IsReadAs (Some r) meant) c.in-Err.is c.in_ok-event.ensures)
