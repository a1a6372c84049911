use Rattle.std.proofs.Common.{ℕ, ℤ, length, sym, ap, ◌∙◌, arith, FitsSigned}
use Rattle.std.specs.Int.{w128}
use Rattle.std.specs.List.{All}
use Rattle.std.specs.Result.{IfOk}
use Rattle.std.proofs.lemmas.Int.{ints, to_z-of_z}
use Rattle.std.proofs.lemmas.List.{length-map}
use Rattle.std.proofs.lemmas.Result.{IfOk-weaker}
use Rattle.tk_base.specs.Objects.{objects}
use Rattle.tk_base.specs.Pairs.{objects_of}
use Rattle.tk_base.proofs.MemberLemmas.{length-objects}
use Rattle.tk_rows.specs.declared.mon_change.MonChange.{MonChange}
use Rattle.tk_rows.specs.declared.reallocation.Reallocation.{Reallocation}
use Rattle.tk_rows.specs.Replacing.{IsReplacement}
use Rattle.tk_alloc.specs.Pick.{picked}
use Rattle.tk_alloc.specs.Rounds.{IsWideRound, KeepsOwn, KeepsLevels, AreSlight, total, totals}
use Rattle.tk_alloc.specs.declared.reported.Reported.{Reported}
use Rattle.tk_alloc.proofs.WideLemmas.{IsAsked, IsWide, asked_terms, asked_is_wide, reports_count, first_objects, wide_replaces, wide_own_slight, wide_at_slight, wide_keeps_own, wide_keeps_levels}
use Rattle.tk_alloc.proofs.wide_round.wide.Goals as goal

pub totals-requires-clause-count : goal.totals-requires-clause-count
totals-requires-clause-count c =
    omega (arith, reports_count c.args.settings.now.monitors (objects c.args.settings.now.objects) c.args.reports.now c.requires.reports, c.k-k.ensures.limits.monitors)

pub pick-requires-clause-enough : goal.pick-requires-clause-enough
pick-requires-clause-enough c =
    let all = first_objects c.args.settings.now c.args.reports.now c.index-reports-0.result c.k-k.ensures.limits c.requires.reports c.index-reports-0.is in
    let long = length-map {B = ℕ × ℤ} (objects_of c.index-reports-0.result.values) (λ (o : ℕ). (o, total c.args.reports.now o)) in
    omega (arith, c.k-k.ensures.value, c.k-k.ensures.limits.members, ap length (c.in_ok-totals.ensures ∙ ap (λ (r : Reported). totals c.args.reports.now (objects_of r.values)) (sym c.index-reports-0.is)), long, ap length all, length-objects c.args.settings.now.objects)

asked : (c : goal.After-terms-2-1) → IsAsked c.args.settings.now c.args.table.now c.args.members.now c.args.reports.now c.index-reports-0.result c.in_ok-totals.totals c.in_ok-chosen.chosen c.in_ok-own_values.field-0
asked c = record {
  limits = c.k-k.ensures.limits;
  size = c.requires.size;
  balanced = c.promise.ensures;
  reported = c.requires.reports;
  head = c.index-reports-0.is;
  sums_are = c.in_ok-totals.ensures ∙ ap (λ (r : Reported). totals c.args.reports.now (objects_of r.values)) (sym c.index-reports-0.is);
  members_are = c.in_ok-chosen.ensures.value ∙ ap (picked c.in_ok-totals.totals c.args.members.now) c.k-k.ensures.value;
  values_are =
      let fits : FitsSigned w128 c.epsilon.result = omega (arith, ints) in
      rw (to_z-of_z w128 c.epsilon.result fits, c.epsilon.ensures.value) at c.in_ok-own_values.ensures;
}

pub reallocated-requires : goal.reallocated-requires
reallocated-requires c =
    asked_terms c.args.settings.now c.args.table.now c.args.members.now c.args.reports.now c.index-reports-0.result c.in_ok-totals.totals c.in_ok-chosen.chosen c.in_ok-own_values.field-0 c.own_weight.result (asked c) c.own_weight.ensures.value

asked_at_end : (c : goal.Joined-totals-3) → IsAsked c.args.settings.now c.args.table.now c.args.members.now c.args.reports.now c.index-reports-0.result c.in_ok-totals.totals c.in_ok-chosen.chosen c.in_ok-own_values.field-0
asked_at_end c = record {
  limits = c.k-k.ensures.limits;
  size = c.requires.size;
  balanced = c.promise.ensures;
  reported = c.requires.reports;
  head = c.index-reports-0.is;
  sums_are = c.in_ok-totals.ensures ∙ ap (λ (r : Reported). totals c.args.reports.now (objects_of r.values)) (sym c.index-reports-0.is);
  members_are = c.in_ok-chosen.ensures.value ∙ ap (picked c.in_ok-totals.totals c.args.members.now) c.k-k.ensures.value;
  values_are =
      let fits : FitsSigned w128 c.epsilon.result = omega (arith, ints) in
      rw (to_z-of_z w128 c.epsilon.result fits, c.epsilon.ensures.value) at c.in_ok-own_values.ensures;
}

-- what is returned is the end of a wide round
ended : (c : goal.Joined-totals-3) → IfOk c.reallocated.result (λ r. IsWide c.args.settings.now c.args.table.now c.args.members.now c.args.reports.now r)
ended c =
    IfOk-weaker c.reallocated.result _ (λ (r : Reallocation). IsWide c.args.settings.now c.args.table.now c.args.members.now c.args.reports.now r)
    (λ r is. asked_is_wide c.args.settings.now c.args.table.now c.args.members.now c.args.reports.now c.index-reports-0.result c.in_ok-totals.totals c.in_ok-chosen.chosen c.in_ok-own_values.field-0 c.own_weight.result r (asked_at_end c) c.own_weight.ensures.value is)
    c.reallocated.ensures

so : (c : goal.Joined-totals-3) (Q : Reallocation → Type 0) → ((r : Reallocation) → IsWide c.args.settings.now c.args.table.now c.args.members.now c.args.reports.now r → Q r) → IfOk c.reallocated.result Q
so c Q h = IfOk-weaker c.reallocated.result (λ (r : Reallocation). IsWide c.args.settings.now c.args.table.now c.args.members.now c.args.reports.now r) Q h (ended c)

pub returns-clause-value : goal.returns-clause-value
returns-clause-value c = so c (λ r. IsWideRound c.args.settings.now c.args.table.now c.args.members.now c.args.reports.now r) (λ r w. w.is)

pub returns-clause-fits : goal.returns-clause-fits
returns-clause-fits c = so c (λ r. IsReplacement c.args.table.now r) (wide_replaces c.args.settings.now c.args.table.now c.args.members.now c.args.reports.now)

pub returns-clause-own_slight : goal.returns-clause-own_slight
returns-clause-own_slight c = so c (λ r. AreSlight r.own) (wide_own_slight c.args.settings.now c.args.table.now c.args.members.now c.args.reports.now)

pub returns-clause-at_slight : goal.returns-clause-at_slight
returns-clause-at_slight c = so c (λ r. All (λ (m : MonChange). AreSlight m.changes) r.at.items) (wide_at_slight c.args.settings.now c.args.table.now c.args.members.now c.args.reports.now)

pub returns-clause-own : goal.returns-clause-own
returns-clause-own c = so c (λ r. KeepsOwn c.args.table.now c.args.settings.now.epsilon r) (wide_keeps_own c.args.settings.now c.args.table.now c.args.members.now c.args.reports.now)

pub returns-clause-levels : goal.returns-clause-levels
returns-clause-levels c = so c (λ r. All (KeepsLevels c.args.table.now r) c.args.reports.now) (wide_keeps_levels c.args.settings.now c.args.table.now c.args.members.now c.args.reports.now)
