use Rattle.std.proofs.Common.{pos, sym, ap, ◌∙◌, arith, FitsSigned}
use Rattle.std.specs.Int.{w128}
use Rattle.std.proofs.lemmas.Int.{ints, to_z-of_z}
use Rattle.tk_base.specs.Pairs.{objects_of}
use Rattle.tk_alloc_tests.proofs.TestLemmas.{two_border, two_ready, two_take}
use Rattle.tk_alloc_tests.proofs.tests.short_round.Goals as goal

pub short_test-passes-requires-clause-ready : goal.short_test-passes-requires-clause-ready
short_test-passes-requires-clause-ready g c =
    two_ready c.in_ok-far.far c.in_ok-table.table c.in_ok-members.members (objects_of c.in_ok-report.report.values) c.in_ok-far.ensures.k c.in_ok-far.ensures.objects c.in_ok-far.ensures.monitors c.in_ok-far.ensures.no_debt
    c.in_ok-table.ensures.objects c.in_ok-table.ensures.monitors c.in_ok-members.ensures (ap objects_of c.in_ok-report.ensures.values) (c.in_ok-table.ensures.zeros 0 1) (c.in_ok-table.ensures.zeros 0 2)

pub short_test-passes-requires-clause-report : goal.short_test-passes-requires-clause-report
short_test-passes-requires-clause-report g c =
    two_take c.in_ok-table.table c.in_ok-members.members (objects_of c.in_ok-report.report.values) c.in_ok-report.report (pos 0) (pos 3) (pos 0) (pos 0) c.in_ok-members.ensures (ap objects_of c.in_ok-report.ensures.values) c.in_ok-report.ensures.values c.in_ok-report.ensures.border
    (omega arith) (omega arith) (omega (arith, c.in_ok-report.ensures.mon)) (omega (arith, c.in_ok-report.ensures.mon, c.in_ok-table.ensures.monitors)) (c.in_ok-table.ensures.zeros c.in_ok-report.report.mon.0 1) (omega (arith, ints)) (omega (arith, ints))

pub is_short-is_found-requires-clause-ready : goal.is_short-is_found-requires-clause-ready
is_short-is_found-requires-clause-ready g c =
    two_ready c.in_ok-near.near c.in_ok-table.table c.in_ok-members.members (objects_of c.in_ok-report.report.values) c.in_ok-near.ensures.k c.in_ok-near.ensures.objects c.in_ok-near.ensures.monitors c.in_ok-near.ensures.no_debt
    c.in_ok-table.ensures.objects c.in_ok-table.ensures.monitors c.in_ok-members.ensures (ap objects_of c.in_ok-report.ensures.values) (c.in_ok-table.ensures.zeros 0 1) (c.in_ok-table.ensures.zeros 0 2)

pub is_short-is_found-requires-clause-report : goal.is_short-is_found-requires-clause-report
is_short-is_found-requires-clause-report g c =
    two_take c.in_ok-table.table c.in_ok-members.members (objects_of c.in_ok-report.report.values) c.in_ok-report.report (pos 0) (pos 3) (pos 0) (pos 0) c.in_ok-members.ensures (ap objects_of c.in_ok-report.ensures.values) c.in_ok-report.ensures.values c.in_ok-report.ensures.border
    (omega arith) (omega arith) (omega (arith, c.in_ok-report.ensures.mon)) (omega (arith, c.in_ok-report.ensures.mon, c.in_ok-table.ensures.monitors)) (c.in_ok-table.ensures.zeros c.in_ok-report.report.mon.0 1) (omega (arith, ints)) (omega (arith, ints))

pub is_short-is_found-requires-clause-border : goal.is_short-is_found-requires-clause-border
is_short-is_found-requires-clause-border g c =
    let fits : FitsSigned w128 c.epsilon-border.result = omega (arith, ints) in
    to_z-of_z w128 c.epsilon-border.result fits ∙ c.epsilon-border.ensures.value
    ∙ sym (two_border c.in_ok-near.near c.in_ok-table.table c.in_ok-members.members (objects_of c.in_ok-report.report.values) c.in_ok-table.ensures.objects c.in_ok-members.ensures (ap objects_of c.in_ok-report.ensures.values) (c.in_ok-table.ensures.zeros 0 1))
