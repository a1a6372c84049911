use Rattle.std.proofs.Common.{◌≡◌, ◌∷◌, [], Some, length, arith, ap}
use Rattle.std.proofs.lemmas.List.{length-append}
use Rattle.std.proofs.lemmas.Result.{err_from_is_err_and}
use Rattle.tk_input.specs.Order.{event_in, event_taken, ordered, words}
use Rattle.tk_input.proofs.OrderLemmas.{event_read, line_read, line_taken, line_unread}
use Rattle.tk_input.proofs.order.take_line.Goals as goal

pub returns-in_default-clause-err : goal.returns-in_default-clause-err
returns-in_default-clause-err c = ap (event_taken (ordered c.args.events.now.items c.args.lines.now.items) c.args.number) c.in_default.ensures

pub returns-clause-ok : goal.returns-clause-ok
returns-clause-ok c =
    let is : event_in (words c.args.line.now) ≡ Some c.in_ok-event.field-0 = event_read _ _ _ _ c.event_of.ensures c.in-Some.is c.in_ok-event.was in
    line_taken c.args.events.now.items c.push.new.self.items c.args.lines.now.items c.push-2.new.self.items c.args.number c.args.line.now _ is c.in_ok-push.ensures.items c.in_ok-push-2.ensures.items

pub returns-clause-pairs : goal.returns-clause-pairs
returns-clause-pairs c = λ same.
    omega (arith, same, ap length c.in_ok-push.ensures.items, length-append c.args.events.now.items (c.in_ok-event.field-0 ∷ []), ap length c.in_ok-push-2.ensures.items, length-append c.args.lines.now.items (c.args.number ∷ []))

pub returns-in_err-event-clause-err : goal.returns-in_err-event-clause-err
returns-in_err-event-clause-err c =
    let given = err_from_is_err_and c.from_residual.result c.from_residual.ensures.1 in
    rw (given.1, given.2) (line_unread (ordered c.args.events.now.items c.args.lines.now.items) c.args.number c.args.line.now _ _ _ c.event_of.ensures c.in-Some.is c.in_err-event.was)

pub returns-in_err-event-clause-ok : goal.returns-in_err-event-clause-ok
returns-in_err-event-clause-ok c = rw (err_from_is_err_and c.from_residual.result c.from_residual.ensures.1).1 tt

pub returns-in_err-event-clause-pairs : goal.returns-in_err-event-clause-pairs
returns-in_err-event-clause-pairs c = rw (err_from_is_err_and c.from_residual.result c.from_residual.ensures.1).1 tt

pub returns-in_err-push-clause-err : goal.returns-in_err-push-clause-err
returns-in_err-push-clause-err c =
    let given = err_from_is_err_and c.from_residual-in_err-push.result c.from_residual-in_err-push.ensures.1 in
    rw (given.1, given.2) (line_read (ordered c.args.events.now.items c.args.lines.now.items) c.args.number c.args.line.now _ (event_read _ _ _ _ c.event_of.ensures c.in-Some.is c.in_ok-event.was))

pub returns-in_err-push-clause-ok : goal.returns-in_err-push-clause-ok
returns-in_err-push-clause-ok c = rw (err_from_is_err_and c.from_residual-in_err-push.result c.from_residual-in_err-push.ensures.1).1 tt

pub returns-in_err-push-clause-pairs : goal.returns-in_err-push-clause-pairs
returns-in_err-push-clause-pairs c = rw (err_from_is_err_and c.from_residual-in_err-push.result c.from_residual-in_err-push.ensures.1).1 tt

pub returns-in_err-push-2-clause-err : goal.returns-in_err-push-2-clause-err
returns-in_err-push-2-clause-err c =
    let given = err_from_is_err_and c.from_residual-in_err-push-2.result c.from_residual-in_err-push-2.ensures.1 in
    rw (given.1, given.2) (line_read (ordered c.args.events.now.items c.args.lines.now.items) c.args.number c.args.line.now _ (event_read _ _ _ _ c.event_of.ensures c.in-Some.is c.in_ok-event.was))

pub returns-in_err-push-2-clause-ok : goal.returns-in_err-push-2-clause-ok
returns-in_err-push-2-clause-ok c = rw (err_from_is_err_and c.from_residual-in_err-push-2.result c.from_residual-in_err-push-2.ensures.1).1 tt

pub returns-in_err-push-2-clause-pairs : goal.returns-in_err-push-2-clause-pairs
returns-in_err-push-2-clause-pairs c = rw (err_from_is_err_and c.from_residual-in_err-push-2.result c.from_residual-in_err-push-2.ensures.1).1 tt
