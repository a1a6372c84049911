use Rattle.std.proofs.Common.{◌≡◌, ℕ, pos, negsuc, ap, ◌∙◌, arith}
use Rattle.std.proofs.lemmas.Int.{ints}
use Rattle.tk_rows.specs.Factors.{factor_at}
use Rattle.tk_alloc.specs.Resolving.{objects_over}
use Rattle.tk_alloc_tests.proofs.TestLemmas.{both_reports, both_take, over_both, two_ready, two_reports, two_take}
use Rattle.tk_alloc_tests.proofs.tests.only_a_full_round_goes_past_the_limit.Goals as goal

pub is_wide-wide-requires-clause-reports : goal.is_wide-wide-requires-clause-reports
is_wide-wide-requires-clause-reports g c =
    two_reports c.as_slice-list.result.now c.in_ok-first.first c.in_ok-second.second (pos 0) (pos 1) (pos 0) (pos 30) c.in_ok-settings.settings.monitors c.in_ok-settings.settings.objects c.in_ok-settings.ensures.monitors c.in_ok-settings.ensures.objects
    (c.as_slice-list.ensures.value ∙ c.in_ok-reports.ensures) c.in_ok-first.ensures.mon c.in_ok-second.ensures.mon c.in_ok-first.ensures.values c.in_ok-second.ensures.values
    (omega arith) (omega arith) (omega arith) (omega arith)

pub full_fault-fault-requires-clause-ready : goal.full_fault-fault-requires-clause-ready
full_fault-fault-requires-clause-ready g c =
    two_ready c.in_ok-settings.settings c.in_ok-table.table c.in_ok-members.members (objects_over c.as_slice-list.result.now) c.in_ok-settings.ensures.k c.in_ok-settings.ensures.objects c.in_ok-settings.ensures.monitors c.in_ok-settings.ensures.no_debt
    c.in_ok-table.ensures.objects c.in_ok-table.ensures.monitors c.in_ok-members.ensures
    (over_both c.as_slice-list.result.now c.in_ok-first.first c.in_ok-second.second (pos 0) (pos 1) (c.as_slice-list.ensures.value ∙ c.in_ok-reports.ensures) c.in_ok-first.ensures.values)
    c.in_ok-table.ensures.own_one c.in_ok-table.ensures.own_two

pub full_fault-fault-requires-clause-reports : goal.full_fault-fault-requires-clause-reports
full_fault-fault-requires-clause-reports g c =
    both_reports c.as_slice-list.result.now c.in_ok-first.first c.in_ok-second.second (pos 0) (pos 1) (pos 0) (pos 30) c.in_ok-settings.settings.monitors (objects_over c.as_slice-list.result.now) c.in_ok-settings.ensures.monitors
    (over_both c.as_slice-list.result.now c.in_ok-first.first c.in_ok-second.second (pos 0) (pos 1) (c.as_slice-list.ensures.value ∙ c.in_ok-reports.ensures) c.in_ok-first.ensures.values)
    (c.as_slice-list.ensures.value ∙ c.in_ok-reports.ensures) c.in_ok-first.ensures.mon c.in_ok-second.ensures.mon c.in_ok-first.ensures.values c.in_ok-second.ensures.values
    (omega arith) (omega arith) (omega arith) (omega arith)

pub full_fault-fault-requires-clause-borders : goal.full_fault-fault-requires-clause-borders
full_fault-fault-requires-clause-borders g c =
    let new = c.in_ok-table.table in
    let over = (over_both c.as_slice-list.result.now c.in_ok-first.first c.in_ok-second.second (pos 0) (pos 1) (c.as_slice-list.ensures.value ∙ c.in_ok-reports.ensures) c.in_ok-first.ensures.values) in
    let first : factor_at new c.in_ok-first.first.mon.0 1 ≡ pos 5192296858534827628530496329220096 =
    ap (λ (n : ℕ). factor_at new n 1) c.in_ok-first.ensures.mon ∙ c.in_ok-table.ensures.great in
    let second : factor_at new c.in_ok-second.second.mon.0 1 ≡ negsuc 5192296858534827628530496329220095 =
    ap (λ (n : ℕ). factor_at new n 1) c.in_ok-second.ensures.mon ∙ c.in_ok-table.ensures.small in
    both_take new c.in_ok-members.members (objects_over c.as_slice-list.result.now) c.as_slice-list.result.now c.in_ok-first.first c.in_ok-second.second (c.as_slice-list.ensures.value ∙ c.in_ok-reports.ensures)
    (two_take new c.in_ok-members.members (objects_over c.as_slice-list.result.now) c.in_ok-first.first (pos 0) (pos 1) (pos 5192296858534827628530496329220096) (pos 5192296858534827628530496329220096) c.in_ok-members.ensures over c.in_ok-first.ensures.values c.in_ok-first.ensures.border
    (omega arith) (omega arith) (omega (arith, c.in_ok-first.ensures.mon)) (omega (arith, c.in_ok-first.ensures.mon, c.in_ok-table.ensures.monitors)) first (omega (arith, ints)) (omega (arith, ints)))
    (two_take new c.in_ok-members.members (objects_over c.as_slice-list.result.now) c.in_ok-second.second (pos 0) (pos 30) (negsuc 5192296858534827628530496329220095) (negsuc 5192296858534827628530496329220095) c.in_ok-members.ensures over c.in_ok-second.ensures.values c.in_ok-second.ensures.border
    (omega arith) (omega arith) (omega (arith, c.in_ok-second.ensures.mon)) (omega (arith, c.in_ok-second.ensures.mon, c.in_ok-table.ensures.monitors)) second (omega (arith, ints)) (omega (arith, ints)))
