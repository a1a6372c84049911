use Rattle.std.proofs.Common.{◌∙◌, ap, sym, take, length, arith, ◌<◌, ◌++◌, ◌∷◌, []}
use Rattle.std.proofs.lemmas.List.{take_more}
use Rattle.std.proofs.lemmas.Option.{get_or_from_slice_get}
use Rattle.std.proofs.lemmas.Result.{on_err_weaker}
use Rattle.tk_input.specs.declared.event.Event.{Event}
use Rattle.tk_drain.proofs.BeginLemmas.{behind_order, order_cut}
use Rattle.tk_drain.proofs.LegLemmas.{err_by}
use Rattle.tk_drain.proofs.PassingLemmas.{order_more}
use Rattle.tk_drain.proofs.finishing.drive.Goals as goal

pub returns-in_err-try_clone-clause-err : goal.returns-in_err-try_clone-clause-err
returns-in_err-try_clone-clause-err g c = err_by c.from_residual.result (order_cut c.args.order.now.events c.loop-i.i c.args.world.now c.loop-i.world c.loop-i.invariant.kept)

pub returns-in_err-step-clause-err : goal.returns-in_err-step-clause-err
returns-in_err-step-clause-err g c = err_by c.from_residual-in_err-step.result (order_cut c.args.order.now.events c.loop-i.i c.args.world.now c.step.new.self (c.in_err-step.ensures.err ∙ c.loop-i.invariant.kept))

pub loop-i-preserved : goal.loop-i-preserved
loop-i-preserved g c =
    let i = c.loop-i.i in
    let order = c.args.order.now.events in
    let low = c.loop-i-test.true in
    let end = c.len-i-end.ensures in
    let within : i < length order = omega (arith, low, end) in
    record {
      story = c.step.ensures.legal;
      kept =
          order_more order i c.in_ok-try_clone.field-0 c.in_ok-step.field-0 c.args.world.now c.loop-i.world c.step.new.self
          (take_more order i c.in_ok-try_clone.field-0 within ∙ ap (λ (e : Event). take i order ++ e ∷ []) (get_or_from_slice_get order i c.at.result.now c.in_ok-try_clone.field-0 c.at.ensures ∙ sym c.in_ok-try_clone.ensures))
          c.loop-i.invariant.kept c.in_ok-step.ensures.ok;
    }

pub returns-clause-err : goal.returns-clause-err
returns-clause-err g c =
    let low = c.loop-i-test.false in
    let end = c.len-i-end.ensures in
    on_err_weaker c.finish.result (λ begins. behind_order c.args.order.now.events c.loop-i.i c.args.world.now c.loop-i.world c.finish.new.world c.loop-i.invariant.kept (omega (arith, low, end)) begins) c.finish.ensures.err
