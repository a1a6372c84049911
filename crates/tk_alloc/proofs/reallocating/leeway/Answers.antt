use Rattle.std.proofs.Common.{◌<◌, ◌+ℤ◌, List, length, map, get_or, ap, ◌∙◌, arith, FitsSigned, to_z}
use Rattle.std.specs.Int.{w128}
use Rattle.std.proofs.lemmas.Int.{ints, to_z-of_z}
use Rattle.std.proofs.lemmas.List.{take_all}
use Rattle.tk_base.specs.Pairs.{objects_of}
use Rattle.tk_base.specs.Sum.{int_sum}
use Rattle.tk_alloc.specs.declared.reported.Reported.{Reported}
use Rattle.tk_alloc.specs.Parts.{above, leeway}
use Rattle.tk_alloc.specs.Terms.{parts_of}
use Rattle.tk_alloc.proofs.PartLemmas.{leeway_more}
use Rattle.tk_alloc.proofs.reallocating.leeway.Goals as goal

pub loop-report-preserved : goal.loop-report-preserved
loop-report-preserved c =
    let gap : FitsSigned w128 c.gap_at-sum.result = omega (arith, ints) in
    let within : c.loop-report.report-index < length c.args.reports.now = c.loop-report-test.true in
    let count = c.requires.terms.count in
    let sum : FitsSigned w128 (to_z w128 c.loop-report.sum-bits +ℤ c.gap_at-sum.result) = omega (arith, ints, c.loop-report.invariant.1, c.gap_at-sum.ensures.size) in
    rw (to_z-of_z w128 c.gap_at-sum.result gap, to_z-of_z w128 (to_z w128 c.loop-report.sum-bits +ℤ c.gap_at-sum.result) sum) (
      leeway_more c.args.table.now (get_or (objects_of c.args.terms.now.own_values) c.args.place 0) c.args.terms.now c.args.reports.now c.loop-report.report-index c.report-item.result
          (to_z w128 c.loop-report.sum-bits) c.gap_at-sum.result within c.report-item.is c.loop-report.invariant.0 c.gap_at-sum.ensures.value,
      omega (arith, ints, c.loop-report.invariant.1, c.gap_at-sum.ensures.size),
    )

pub returns-clause-value : goal.returns-clause-value
unfolding leeway
returns-clause-value c =
    c.loop-report.invariant.0
    ∙ ap (λ (rs : List Reported). int_sum (map (above c.args.table.now (get_or (objects_of c.args.terms.now.own_values) c.args.place 0)) (parts_of c.args.terms.now rs)))
    (take_all c.loop-report.report-index c.args.reports.now c.loop-report-test.false)
