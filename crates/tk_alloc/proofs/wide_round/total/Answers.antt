use Rattle.std.proofs.Common.{◌<◌, ◌+ℤ◌, List, length, get_or, ap, ◌∙◌, arith, FitsSigned, to_z}
use Rattle.std.specs.Int.{w128}
use Rattle.std.proofs.lemmas.Int.{ints, to_z-of_z}
use Rattle.std.proofs.lemmas.List.{take_all}
use Rattle.tk_base.specs.Pairs.{objects_of}
use Rattle.tk_alloc.specs.declared.reported.Reported.{Reported}
use Rattle.tk_alloc.specs.Rounds.{total}
use Rattle.tk_alloc.proofs.PartLemmas.{total_more}
use Rattle.tk_alloc.proofs.wide_round.total.Goals as goal

pub loop-report-preserved : goal.loop-report-preserved
loop-report-preserved c =
    let one : FitsSigned w128 c.value_at-sum.result = omega (arith, ints) in
    let within : c.loop-report.report-index < length c.args.reports.now = c.loop-report-test.true in
    let count = c.requires.count in
    let sum : FitsSigned w128 (to_z w128 c.loop-report.sum-bits +ℤ c.value_at-sum.result) = omega (arith, ints, c.loop-report.invariant.1, c.value_at-sum.ensures.size) in
    rw (to_z-of_z w128 c.value_at-sum.result one, to_z-of_z w128 (to_z w128 c.loop-report.sum-bits +ℤ c.value_at-sum.result) sum) (
      total_more c.args.reports.now c.loop-report.report-index (get_or (objects_of c.args.objects.now) c.args.place 0) c.report-item.result (to_z w128 c.loop-report.sum-bits) c.value_at-sum.result within c.report-item.is
          c.loop-report.invariant.0 c.value_at-sum.ensures.value,
      omega (arith, ints, c.loop-report.invariant.1, c.value_at-sum.ensures.size),
    )

pub returns : goal.returns
returns c =
    c.loop-report.invariant.0
    ∙ ap (λ (rs : List Reported). total rs (get_or (objects_of c.args.objects.now) c.args.place 0)) (take_all c.loop-report.report-index c.args.reports.now c.loop-report-test.false)
