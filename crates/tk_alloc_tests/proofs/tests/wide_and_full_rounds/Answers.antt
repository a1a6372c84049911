use Rattle.std.proofs.Common.{pos, sym, ◌∙◌, arith, FitsSigned}
use Rattle.std.specs.Int.{w128}
use Rattle.std.proofs.lemmas.Int.{ints, to_z-of_z}
use Rattle.tk_alloc.specs.Resolving.{objects_over}
use Rattle.tk_alloc_tests.proofs.TestLemmas.{both_reports, both_take, over_both, two_border, two_ready, two_reports, two_take}
use Rattle.tk_alloc_tests.proofs.tests.wide_and_full_rounds.Goals as goal

pub is_wide-wide-requires-clause-reports : goal.is_wide-wide-requires-clause-reports
is_wide-wide-requires-clause-reports g c =
    two_reports c.as_slice-list.result.now c.in_ok-first.first c.in_ok-second.second (pos 5) (pos 0) (pos 0) (pos 3) c.in_ok-settings.settings.monitors c.in_ok-settings.settings.objects c.in_ok-settings.ensures.monitors c.in_ok-settings.ensures.objects
    (c.as_slice-list.ensures.value ∙ c.in_ok-reports.ensures) c.in_ok-first.ensures.mon c.in_ok-second.ensures.mon c.in_ok-first.ensures.values c.in_ok-second.ensures.values
    (omega arith) (omega arith) (omega arith) (omega arith)

pub is_full-full-requires-clause-ready : goal.is_full-full-requires-clause-ready
is_full-full-requires-clause-ready g c =
    two_ready c.in_ok-settings.settings c.in_ok-table.table c.in_ok-members.members (objects_over c.as_slice-list.result.now) c.in_ok-settings.ensures.k c.in_ok-settings.ensures.objects c.in_ok-settings.ensures.monitors c.in_ok-settings.ensures.no_debt
    c.in_ok-table.ensures.objects c.in_ok-table.ensures.monitors c.in_ok-members.ensures
    (over_both c.as_slice-list.result.now c.in_ok-first.first c.in_ok-second.second (pos 5) (pos 0) (c.as_slice-list.ensures.value ∙ c.in_ok-reports.ensures) c.in_ok-first.ensures.values)
    (c.in_ok-table.ensures.zeros 0 1) (c.in_ok-table.ensures.zeros 0 2)

pub is_full-full-requires-clause-reports : goal.is_full-full-requires-clause-reports
is_full-full-requires-clause-reports g c =
    both_reports c.as_slice-list.result.now c.in_ok-first.first c.in_ok-second.second (pos 5) (pos 0) (pos 0) (pos 3) c.in_ok-settings.settings.monitors (objects_over c.as_slice-list.result.now) c.in_ok-settings.ensures.monitors
    (over_both c.as_slice-list.result.now c.in_ok-first.first c.in_ok-second.second (pos 5) (pos 0) (c.as_slice-list.ensures.value ∙ c.in_ok-reports.ensures) c.in_ok-first.ensures.values)
    (c.as_slice-list.ensures.value ∙ c.in_ok-reports.ensures) c.in_ok-first.ensures.mon c.in_ok-second.ensures.mon c.in_ok-first.ensures.values c.in_ok-second.ensures.values
    (omega arith) (omega arith) (omega arith) (omega arith)

pub is_full-full-requires-clause-borders : goal.is_full-full-requires-clause-borders
is_full-full-requires-clause-borders g c =
    let over = (over_both c.as_slice-list.result.now c.in_ok-first.first c.in_ok-second.second (pos 5) (pos 0) (c.as_slice-list.ensures.value ∙ c.in_ok-reports.ensures) c.in_ok-first.ensures.values) in
    both_take c.in_ok-table.table c.in_ok-members.members (objects_over c.as_slice-list.result.now) c.as_slice-list.result.now c.in_ok-first.first c.in_ok-second.second (c.as_slice-list.ensures.value ∙ c.in_ok-reports.ensures)
    (two_take c.in_ok-table.table c.in_ok-members.members (objects_over c.as_slice-list.result.now) c.in_ok-first.first (pos 5) (pos 0) (pos 5) (pos 0) c.in_ok-members.ensures over c.in_ok-first.ensures.values c.in_ok-first.ensures.border
    (omega arith) (omega arith) (omega (arith, c.in_ok-first.ensures.mon)) (omega (arith, c.in_ok-first.ensures.mon, c.in_ok-table.ensures.monitors)) (c.in_ok-table.ensures.zeros c.in_ok-first.first.mon.0 1) (omega (arith, ints)) (omega (arith, ints)))
    (two_take c.in_ok-table.table c.in_ok-members.members (objects_over c.as_slice-list.result.now) c.in_ok-second.second (pos 0) (pos 3) (pos 0) (pos 0) c.in_ok-members.ensures over c.in_ok-second.ensures.values c.in_ok-second.ensures.border
    (omega arith) (omega arith) (omega (arith, c.in_ok-second.ensures.mon)) (omega (arith, c.in_ok-second.ensures.mon, c.in_ok-table.ensures.monitors)) (c.in_ok-table.ensures.zeros c.in_ok-second.second.mon.0 1) (omega (arith, ints)) (omega (arith, ints)))

pub is_full-full-requires-clause-border : goal.is_full-full-requires-clause-border
is_full-full-requires-clause-border g c =
    let fits : FitsSigned w128 c.epsilon-border.result = omega (arith, ints) in
    let over = over_both c.as_slice-list.result.now c.in_ok-first.first c.in_ok-second.second (pos 5) (pos 0) (c.as_slice-list.ensures.value ∙ c.in_ok-reports.ensures) c.in_ok-first.ensures.values in
    to_z-of_z w128 c.epsilon-border.result fits ∙ c.epsilon-border.ensures.value
    ∙ sym (two_border c.in_ok-settings.settings c.in_ok-table.table c.in_ok-members.members (objects_over c.as_slice-list.result.now) c.in_ok-table.ensures.objects c.in_ok-members.ensures over (c.in_ok-table.ensures.zeros 0 1))
