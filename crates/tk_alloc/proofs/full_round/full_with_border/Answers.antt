use Rattle.std.proofs.Common.{◌≡◌, ◌<◌, ℕ, ℤ, List, Contains, length, sym, ap, ◌∙◌, subst, arith, FitsSigned, to_z, of_z}
use Rattle.std.specs.Int.{w128}
use Rattle.std.specs.List.{All}
use Rattle.std.proofs.lemmas.Int.{ints, to_z-of_z}
use Rattle.std.proofs.lemmas.List.Elements.{All-contains}
use Rattle.tk_base.specs.Ascending.{IsAscending}
use Rattle.tk_base.specs.Pairs.{objects_of}
use Rattle.tk_rows.specs.Replacing.{IsReplacement}
use Rattle.tk_rows.proofs.WritingLemmas.{ascending_are_apart}
use Rattle.tk_alloc.specs.declared.reported.Reported.{Reported}
use Rattle.tk_alloc.specs.Limit.{full_factors}
use Rattle.tk_alloc.specs.Parts.{IsReallocation}
use Rattle.tk_alloc.specs.Pick.{picked}
use Rattle.tk_alloc.specs.Resolving.{IsFullRound, objects_over}
use Rattle.tk_alloc.specs.Rounds.{AreValues, KeepsLevels, KeepsOwn, chosen, totals}
use Rattle.tk_alloc.specs.Terms.{parts_of}
use Rattle.tk_alloc.proofs.AskedLemmas.{IsSet, err_so, ok_given, ok_so, ok_within, set_round, set_terms, terms_of}
use Rattle.tk_alloc.proofs.FullLemmas.{called_order, full_ends, held_length}
use Rattle.tk_alloc.proofs.GatheredLemmas.{IsGathered, enough, first_over, gathered_called, gathered_members, gathered_set}
use Rattle.tk_alloc.proofs.RoundLemmas.{IsEnded, ended_keeps_levels, ended_keeps_own, ended_replaces, is_even}
use Rattle.tk_alloc.proofs.full_round.full_with_border.Goals as goal
use Rattle.tk_alloc.proofs.WideLemmas.{reports_count}

pub bounds-reports-0 : goal.bounds-reports-0
bounds-reports-0 c =
    let some : 0 < length c.args.reports.now = omega (arith, reports_count c.args.settings.now.monitors (objects_over c.args.reports.now) c.args.reports.now c.requires.reports, c.k-k.ensures.limits.some_monitor) in
    some

pub totals-requires-clause-values : goal.totals-requires-clause-values
totals-requires-clause-values c =
    let over = first_over c.args.settings.now c.args.reports.now c.index-reports-0.result c.k-k.ensures.limits c.requires.reports c.index-reports-0.is in
    let here = sym over ∙ ap (λ (r : Reported). objects_of r.values) c.index-reports-0.is in
    subst (λ all. All (λ (r : Reported). AreValues all r.values) c.args.reports.now) here c.requires.reports.values

pub totals-requires-clause-count : goal.totals-requires-clause-count
totals-requires-clause-count c = omega (arith, reports_count c.args.settings.now.monitors (objects_over c.args.reports.now) c.args.reports.now c.requires.reports, c.k-k.ensures.limits.monitors)

pub pick-requires-clause-enough : goal.pick-requires-clause-enough
pick-requires-clause-enough c =
    let over = first_over c.args.settings.now c.args.reports.now c.index-reports-0.result c.k-k.ensures.limits c.requires.reports c.index-reports-0.is in
    let all = objects_over c.args.reports.now in
    let fewer = held_length c.args.members.now all (ascending_are_apart c.args.members.now c.len.ensures.ascends) (λ q found. All-contains (Contains all) c.args.members.now q c.requires.ready.members found) in
    let k = enough c.args.settings.now c.args.table.now c.args.members.now c.args.reports.now c.index-reports-0.result c.in_ok-totals.totals fewer c.requires.ready over
    (c.in_ok-totals.ensures ∙ ap (λ (r : Reported). totals c.args.reports.now (objects_of r.values)) (sym c.index-reports-0.is)) in
    omega (arith, k, c.k-k.ensures.value)

-- what the round deals by
gathered_before : (c : goal.After-terms-2-1) → IsGathered c.args.settings.now c.args.table.now c.args.members.now c.args.reports.now c.index-reports-0.result c.in_ok-totals.totals c.in_ok-chosen.chosen
gathered_before c = record {
  limits = c.k-k.ensures.limits;
  balanced = c.promise.ensures;
  ready = c.requires.ready;
  take = c.requires.borders;
  reported = c.requires.reports;
  head = c.index-reports-0.is;
  sums_are = c.in_ok-totals.ensures ∙ ap (λ (r : Reported). totals c.args.reports.now (objects_of r.values)) (sym c.index-reports-0.is);
  members_are = c.in_ok-chosen.ensures.value ∙ ap (picked c.in_ok-totals.totals c.args.members.now) c.k-k.ensures.value;
  count = c.in_ok-chosen.ensures.count ∙ c.k-k.ensures.value;
  present_up = c.len.ensures.ascends;
  sums_up = subst (λ (xs : List (ℕ × ℤ)). IsAscending (objects_of xs)) c.totals-2.view_is c.totals-2.invariant;
}

set_before : (c : goal.After-terms-2-1) → IsSet c.args.settings.now c.args.table.now c.args.members.now (chosen c.args.settings.now c.args.members.now c.args.reports.now (objects_over c.args.reports.now)) (objects_over c.args.reports.now) c.own_weight.result (to_z w128 (of_z w128 c.args.own_border)) c.in_ok-own_values.field-0
set_before c =
    let border : FitsSigned w128 c.args.own_border = omega (arith, ints) in
    let epsilon : FitsSigned w128 c.epsilon.result = omega (arith, ints) in
    gathered_set c.args.settings.now c.args.table.now c.args.members.now c.args.reports.now c.index-reports-0.result c.in_ok-totals.totals c.in_ok-chosen.chosen c.own_weight.result (to_z w128 (of_z w128 c.args.own_border)) (to_z w128 (of_z w128 c.epsilon.result)) c.in_ok-own_values.field-0
    (gathered_before c) c.own_weight.ensures.value
    (to_z-of_z w128 c.args.own_border border ∙ c.requires.border)
    (to_z-of_z w128 c.epsilon.result epsilon ∙ c.epsilon.ensures.value) c.in_ok-own_values.ensures

pub reallocated-requires : goal.reallocated-requires
reallocated-requires c =
    let count = reports_count c.args.settings.now.monitors (objects_over c.args.reports.now) c.args.reports.now c.requires.reports in
    let limits = c.k-k.ensures.limits in
    set_terms c.args.settings.now c.args.table.now c.args.members.now (chosen c.args.settings.now c.args.members.now c.args.reports.now (objects_over c.args.reports.now)) (objects_over c.args.reports.now) c.args.reports.now c.own_weight.result (to_z w128 (of_z w128 c.args.own_border)) c.in_ok-own_values.field-0
    (set_before c) c.requires.ready limits c.promise.ensures c.requires.borders (omega (arith, count, limits.some_monitor)) (omega (arith, count, limits.monitors))

-- what it has dealt
gathered_found : (c : goal.In_ok-change) → IsGathered c.args.settings.now c.args.table.now c.args.members.now c.args.reports.now c.index-reports-0.result c.in_ok-totals.totals c.in_ok-chosen.chosen
gathered_found c = record {
  limits = c.k-k.ensures.limits;
  balanced = c.promise.ensures;
  ready = c.requires.ready;
  take = c.requires.borders;
  reported = c.requires.reports;
  head = c.index-reports-0.is;
  sums_are = c.in_ok-totals.ensures ∙ ap (λ (r : Reported). totals c.args.reports.now (objects_of r.values)) (sym c.index-reports-0.is);
  members_are = c.in_ok-chosen.ensures.value ∙ ap (picked c.in_ok-totals.totals c.args.members.now) c.k-k.ensures.value;
  count = c.in_ok-chosen.ensures.count ∙ c.k-k.ensures.value;
  present_up = c.len.ensures.ascends;
  sums_up = subst (λ (xs : List (ℕ × ℤ)). IsAscending (objects_of xs)) c.totals-2.view_is c.totals-2.invariant;
}

set_found : (c : goal.In_ok-change) → IsSet c.args.settings.now c.args.table.now c.args.members.now (chosen c.args.settings.now c.args.members.now c.args.reports.now (objects_over c.args.reports.now)) (objects_over c.args.reports.now) c.own_weight.result (to_z w128 (of_z w128 c.args.own_border)) c.in_ok-own_values.field-0
set_found c =
    let border : FitsSigned w128 c.args.own_border = omega (arith, ints) in
    let epsilon : FitsSigned w128 c.epsilon.result = omega (arith, ints) in
    gathered_set c.args.settings.now c.args.table.now c.args.members.now c.args.reports.now c.index-reports-0.result c.in_ok-totals.totals c.in_ok-chosen.chosen c.own_weight.result (to_z w128 (of_z w128 c.args.own_border)) (to_z w128 (of_z w128 c.epsilon.result)) c.in_ok-own_values.field-0
    (gathered_found c) c.own_weight.ensures.value
    (to_z-of_z w128 c.args.own_border border ∙ c.requires.border)
    (to_z-of_z w128 c.epsilon.result epsilon ∙ c.epsilon.ensures.value) c.in_ok-own_values.ensures

dealt_found : (c : goal.In_ok-change) → IsFullRound c.args.settings.now c.args.table.now c.args.members.now c.args.reports.now c.in_ok-change.change
dealt_found c =
    let members = chosen c.args.settings.now c.args.members.now c.args.reports.now (objects_over c.args.reports.now) in
    let border = to_z w128 (of_z w128 c.args.own_border) in
    let terms = terms_of c.own_weight.result border c.in_ok-own_values.field-0 in
    set_round c.args.settings.now c.args.table.now c.args.members.now members (objects_over c.args.reports.now) c.args.reports.now c.own_weight.result border c.in_ok-own_values.field-0 c.in_ok-change.change (set_found c)
    (subst (λ m. IsReallocation c.args.table.now (parts_of terms c.args.reports.now) (objects_of c.in_ok-own_values.field-0) m c.in_ok-change.change)
    (gathered_members c.args.settings.now c.args.table.now c.args.members.now c.args.reports.now c.index-reports-0.result c.in_ok-totals.totals c.in_ok-chosen.chosen (gathered_found c)) c.in_ok-change.ensures)

pub within_limit-requires : goal.within_limit-requires
within_limit-requires c =
    is_even c.args.settings.now c.args.table.now c.args.members.now (chosen c.args.settings.now c.args.members.now c.args.reports.now (objects_over c.args.reports.now)) (objects_over c.args.reports.now) c.args.reports.now c.in_ok-change.change (called_order c.args.settings.now c.args.reports.now c.requires.reports.order) (dealt_found c)

-- the same at the end
gathered_end : (c : goal.Joined-totals-4) → IsGathered c.args.settings.now c.args.table.now c.args.members.now c.args.reports.now c.index-reports-0.result c.in_ok-totals.totals c.in_ok-chosen.chosen
gathered_end c = record {
  limits = c.k-k.ensures.limits;
  balanced = c.promise.ensures;
  ready = c.requires.ready;
  take = c.requires.borders;
  reported = c.requires.reports;
  head = c.index-reports-0.is;
  sums_are = c.in_ok-totals.ensures ∙ ap (λ (r : Reported). totals c.args.reports.now (objects_of r.values)) (sym c.index-reports-0.is);
  members_are = c.in_ok-chosen.ensures.value ∙ ap (picked c.in_ok-totals.totals c.args.members.now) c.k-k.ensures.value;
  count = c.in_ok-chosen.ensures.count ∙ c.k-k.ensures.value;
  present_up = c.len.ensures.ascends;
  sums_up = subst (λ (xs : List (ℕ × ℤ)). IsAscending (objects_of xs)) c.totals-2.view_is c.totals-2.invariant;
}

set_end : (c : goal.Joined-totals-4) → IsSet c.args.settings.now c.args.table.now c.args.members.now (chosen c.args.settings.now c.args.members.now c.args.reports.now (objects_over c.args.reports.now)) (objects_over c.args.reports.now) c.own_weight.result (to_z w128 (of_z w128 c.args.own_border)) c.in_ok-own_values.field-0
set_end c =
    let border : FitsSigned w128 c.args.own_border = omega (arith, ints) in
    let epsilon : FitsSigned w128 c.epsilon.result = omega (arith, ints) in
    gathered_set c.args.settings.now c.args.table.now c.args.members.now c.args.reports.now c.index-reports-0.result c.in_ok-totals.totals c.in_ok-chosen.chosen c.own_weight.result (to_z w128 (of_z w128 c.args.own_border)) (to_z w128 (of_z w128 c.epsilon.result)) c.in_ok-own_values.field-0
    (gathered_end c) c.own_weight.ensures.value
    (to_z-of_z w128 c.args.own_border border ∙ c.requires.border)
    (to_z-of_z w128 c.epsilon.result epsilon ∙ c.epsilon.ensures.value) c.in_ok-own_values.ensures

dealt_end : (c : goal.Joined-totals-4) → IsFullRound c.args.settings.now c.args.table.now c.args.members.now c.args.reports.now c.in_ok-change.change
dealt_end c =
    let members = chosen c.args.settings.now c.args.members.now c.args.reports.now (objects_over c.args.reports.now) in
    let border = to_z w128 (of_z w128 c.args.own_border) in
    let terms = terms_of c.own_weight.result border c.in_ok-own_values.field-0 in
    set_round c.args.settings.now c.args.table.now c.args.members.now members (objects_over c.args.reports.now) c.args.reports.now c.own_weight.result border c.in_ok-own_values.field-0 c.in_ok-change.change (set_end c)
    (subst (λ m. IsReallocation c.args.table.now (parts_of terms c.args.reports.now) (objects_of c.in_ok-own_values.field-0) m c.in_ok-change.change)
    (gathered_members c.args.settings.now c.args.table.now c.args.members.now c.args.reports.now c.index-reports-0.result c.in_ok-totals.totals c.in_ok-chosen.chosen (gathered_end c)) c.in_ok-change.ensures)

ended : (c : goal.Joined-totals-4) → IsEnded c.args.settings.now c.args.table.now c.args.members.now (chosen c.args.settings.now c.args.members.now c.args.reports.now (objects_over c.args.reports.now)) (objects_over c.args.reports.now) c.args.reports.now c.in_ok-change.change
ended c =
    full_ends c.args.settings.now c.args.table.now c.args.members.now (objects_over c.args.reports.now) c.args.reports.now c.in_ok-change.change
    (gathered_called c.args.settings.now c.args.table.now c.args.members.now c.args.reports.now c.index-reports-0.result c.in_ok-totals.totals c.in_ok-chosen.chosen (gathered_end c)) (dealt_end c)

pub returns-clause-value : goal.returns-clause-value
returns-clause-value c = ok_so c.within_limit.result c.in_ok-change.change (λ r. IsFullRound c.args.settings.now c.args.table.now c.args.members.now c.args.reports.now r) c.within_limit.ensures.same (dealt_end c)

pub returns-clause-count : goal.returns-clause-count
returns-clause-count c =
    ok_so c.within_limit.result c.in_ok-change.change (λ r. length r.members ≡ c.args.settings.now.k) c.within_limit.ensures.same
    (ap length (dealt_end c).chosen ∙ (gathered_called c.args.settings.now c.args.table.now c.args.members.now c.args.reports.now c.index-reports-0.result c.in_ok-totals.totals c.in_ok-chosen.chosen (gathered_end c)).count)

pub returns-clause-within : goal.returns-clause-within
returns-clause-within c =
    ok_given c.within_limit.result c.in_ok-change.change (full_factors c.args.settings.now c.args.table.now c.args.members.now c.args.reports.now)
    (is_even c.args.settings.now c.args.table.now c.args.members.now (chosen c.args.settings.now c.args.members.now c.args.reports.now (objects_over c.args.reports.now)) (objects_over c.args.reports.now) c.args.reports.now c.in_ok-change.change (called_order c.args.settings.now c.args.reports.now c.requires.reports.order) (dealt_end c)) (dealt_end c).factors c.within_limit.ensures.same c.within_limit.ensures.within

pub returns-clause-past : goal.returns-clause-past
returns-clause-past c = err_so c.within_limit.result c.in_ok-change.change (full_factors c.args.settings.now c.args.table.now c.args.members.now c.args.reports.now) (dealt_end c).factors c.within_limit.ensures.past

pub returns-clause-fits : goal.returns-clause-fits
returns-clause-fits c =
    ok_within c.within_limit.result c.in_ok-change.change (λ r. IsReplacement c.args.table.now r) c.within_limit.ensures.same c.within_limit.ensures.within
    (ended_replaces c.args.settings.now c.args.table.now c.args.members.now (chosen c.args.settings.now c.args.members.now c.args.reports.now (objects_over c.args.reports.now)) (objects_over c.args.reports.now) c.args.reports.now c.in_ok-change.change (ended c))

pub returns-clause-own : goal.returns-clause-own
returns-clause-own c =
    ok_so c.within_limit.result c.in_ok-change.change (λ r. KeepsOwn c.args.table.now c.args.settings.now.epsilon r) c.within_limit.ensures.same
    (ended_keeps_own c.args.settings.now c.args.table.now c.args.members.now (chosen c.args.settings.now c.args.members.now c.args.reports.now (objects_over c.args.reports.now)) (objects_over c.args.reports.now) c.args.reports.now c.in_ok-change.change (ended c))

pub returns-clause-levels : goal.returns-clause-levels
returns-clause-levels c =
    ok_so c.within_limit.result c.in_ok-change.change (λ r. All (KeepsLevels c.args.table.now r) c.args.reports.now) c.within_limit.ensures.same
    (ended_keeps_levels c.args.settings.now c.args.table.now c.args.members.now (chosen c.args.settings.now c.args.members.now c.args.reports.now (objects_over c.args.reports.now)) (objects_over c.args.reports.now) c.args.reports.now c.in_ok-change.change (ended c))
