use Rattle.std.proofs.Common.{◌∙◌, ap, arith}
use Rattle.tk_input.specs.Logs.{LogSet}
use Rattle.tk_drain.specs.Drive.{longest_of, pass_of}
use Rattle.tk_drain.specs.Drive.BeginsFinishing.{InSettling}
use Rattle.tk_drain.proofs.LegLemmas.{err_by}
use Rattle.tk_drain.proofs.BeginLemmas.{pass_begun, settled_only}
use Rattle.tk_drain.proofs.PassingLemmas.{passed_all, passed_more, passed_none, passed_over}
use Rattle.tk_drain.proofs.finishing.finish.Goals as goal

pub returns-in_err-settle-clause-err : goal.returns-in_err-settle-clause-err
returns-in_err-settle-clause-err g c = err_by c.from_residual.result (InSettling c.in_err-settle.ensures.err)

pub returns-in_err-parts-clause-err : goal.returns-in_err-parts-clause-err
returns-in_err-parts-clause-err g c = err_by c.from_residual-in_err-parts.result (settled_only c.args.world.now c.settle.new.world c.in_ok-settle.field-0.count c.in_ok-settle.ensures.settles)

pub loop-pass-init : goal.loop-pass-init
loop-pass-init g c = passed_none c.settle.new.world c.in_ok-parts.parts.items c.settle.ensures.legal (c.in_ok-parts.ensures ∙ ap (λ (l : LogSet). pass_of l) c.logs.ensures)

pub returns-in_err-raise_each-clause-err : goal.returns-in_err-raise_each-clause-err
returns-in_err-raise_each-clause-err g c =
    let more = c.loop-pass-test.true in
    err_by c.from_residual-in_err-raise_each.result
    (pass_begun c.args.world.now c.settle.new.world c.loop-pass.world c.raise_each.new.world c.loop-pass.parts.items c.in_ok-settle.field-0.count c.loop-pass.pass c.longest_of-pass-end.result c.in_ok-settle.ensures.settles c.loop-pass.invariant
    (omega (arith, more)) (c.longest_of-pass-end.ensures ∙ ap (λ (l : LogSet). longest_of l) c.logs-2.ensures)
    c.in_err-raise_each.ensures.err)

pub loop-pass-preserved : goal.loop-pass-preserved
loop-pass-preserved g c =
    passed_more c.settle.new.world c.loop-pass.world c.raise_each.new.world c.loop-pass.parts.items c.raise_each.new.parts.items c.loop-pass.pass c.loop-pass.invariant c.raise_each.ensures.legal c.in_ok-raise_each.ensures.ok

pub returns-clause-finished : goal.returns-clause-finished
returns-clause-finished g c =
    let low = c.loop-pass-test.false in
    let high = c.loop-pass.auto.pass-end in
    passed_all c.args.world.now c.settle.new.world c.loop-pass.world c.loop-pass.parts.items c.in_ok-settle.field-0.count c.loop-pass.pass c.longest_of-pass-end.result c.in_ok-settle.ensures.settles c.loop-pass.invariant
    (omega (arith, low, high)) (c.longest_of-pass-end.ensures ∙ ap (λ (l : LogSet). longest_of l) c.logs-2.ensures)

pub returns-clause-over : goal.returns-clause-over
returns-clause-over g c =
    let low = c.loop-pass-test.false in
    let high = c.loop-pass.auto.pass-end in
    passed_over c.settle.new.world c.loop-pass.world c.loop-pass.parts.items c.loop-pass.pass c.longest_of-pass-end.result c.settle.ensures.legal c.in_ok-settle.ensures.rests.still c.loop-pass.invariant
    (omega (arith, low, high)) (c.longest_of-pass-end.ensures ∙ ap (λ (l : LogSet). longest_of l) c.logs-2.ensures)
