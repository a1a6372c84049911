use Rattle.std.proofs.Common.{List, [], ◌∷◌, sym, ◌∙◌, subst, arith, FitsSigned, to_z, of_z}
use Rattle.std.specs.Int.{w128}
use Rattle.std.proofs.lemmas.Int.{ints, to_z-of_z}
use Rattle.tk_base.specs.Pairs.{objects_of}
use Rattle.tk_rows.specs.Replacing.{IsReplacement}
use Rattle.tk_alloc.specs.declared.reported.Reported.{Reported}
use Rattle.tk_alloc.specs.Limit.{short_factors}
use Rattle.tk_alloc.specs.Parts.{IsReallocation}
use Rattle.tk_alloc.specs.Resolving.{IsShortRound}
use Rattle.tk_alloc.specs.Rounds.{KeepsLevels, KeepsOwn}
use Rattle.tk_alloc.specs.Terms.{AreTerms, parts_of}
use Rattle.tk_alloc.proofs.AskedLemmas.{IsSet, err_so, ok_given, ok_so, ok_within, set_of, set_round, set_terms, terms_of}
use Rattle.tk_alloc.proofs.RoundLemmas.{IsEnded, ended_keeps_levels, ended_keeps_own, ended_replaces, is_even}
use Rattle.tk_alloc.proofs.ShortLemmas.{one_order, one_takes, short_ends}
use Rattle.tk_alloc.proofs.short_round.short_with_border.Goals as goal

-- what the round deals by
set_before : (c : goal.After-from_ref) → IsSet c.args.settings.now c.args.table.now c.args.members.now c.args.members.now (objects_of c.args.report.now.values) c.own_weight.result (to_z w128 (of_z w128 c.args.own_border)) c.in_ok-own_values.field-0
set_before c =
    let border : FitsSigned w128 c.args.own_border = omega (arith, ints) in
    let epsilon : FitsSigned w128 c.epsilon.result = omega (arith, ints) in
    set_of c.args.settings.now c.args.table.now c.args.members.now c.args.members.now (objects_of c.args.report.now.values) c.own_weight.result (to_z w128 (of_z w128 c.args.own_border)) (to_z w128 (of_z w128 c.epsilon.result)) c.in_ok-own_values.field-0
    c.own_weight.ensures.value (to_z-of_z w128 c.args.own_border border ∙ c.requires.border) (to_z-of_z w128 c.epsilon.result epsilon ∙ c.epsilon.ensures.value) c.in_ok-own_values.ensures

pub reallocated-requires : goal.reallocated-requires
reallocated-requires c =
    let report = c.args.report.now in
    let border = to_z w128 (of_z w128 c.args.own_border) in
    subst (λ (rs : List Reported). AreTerms c.args.table.now (terms_of c.own_weight.result border c.in_ok-own_values.field-0) rs) (sym c.from_ref.ensures.value)
    (set_terms c.args.settings.now c.args.table.now c.args.members.now c.args.members.now (objects_of report.values) (report ∷ []) c.own_weight.result border c.in_ok-own_values.field-0 (set_before c) c.requires.ready c.own_weight.ensures.limits c.promise.ensures
    (one_takes c.args.table.now c.args.members.now report c.requires.report) (omega arith) (omega arith))

-- what it has dealt
set_found : (c : goal.In_ok-change) → IsSet c.args.settings.now c.args.table.now c.args.members.now c.args.members.now (objects_of c.args.report.now.values) c.own_weight.result (to_z w128 (of_z w128 c.args.own_border)) c.in_ok-own_values.field-0
set_found c =
    let border : FitsSigned w128 c.args.own_border = omega (arith, ints) in
    let epsilon : FitsSigned w128 c.epsilon.result = omega (arith, ints) in
    set_of c.args.settings.now c.args.table.now c.args.members.now c.args.members.now (objects_of c.args.report.now.values) c.own_weight.result (to_z w128 (of_z w128 c.args.own_border)) (to_z w128 (of_z w128 c.epsilon.result)) c.in_ok-own_values.field-0
    c.own_weight.ensures.value (to_z-of_z w128 c.args.own_border border ∙ c.requires.border) (to_z-of_z w128 c.epsilon.result epsilon ∙ c.epsilon.ensures.value) c.in_ok-own_values.ensures

dealt_found : (c : goal.In_ok-change) → IsShortRound c.args.settings.now c.args.table.now c.args.members.now c.args.report.now c.in_ok-change.change
dealt_found c =
    let report = c.args.report.now in
    let terms = terms_of c.own_weight.result (to_z w128 (of_z w128 c.args.own_border)) c.in_ok-own_values.field-0 in
    set_round c.args.settings.now c.args.table.now c.args.members.now c.args.members.now (objects_of report.values) (report ∷ []) c.own_weight.result (to_z w128 (of_z w128 c.args.own_border)) c.in_ok-own_values.field-0 c.in_ok-change.change (set_found c)
    (subst (λ m. IsReallocation c.args.table.now (parts_of terms (report ∷ [])) (objects_of c.in_ok-own_values.field-0) m c.in_ok-change.change) c.in_ok-members.ensures
    (subst (λ (rs : List Reported). IsReallocation c.args.table.now (parts_of terms rs) (objects_of c.in_ok-own_values.field-0) c.in_ok-members.members c.in_ok-change.change) c.from_ref.ensures.value c.in_ok-change.ensures))

pub within_limit-requires : goal.within_limit-requires
within_limit-requires c =
    is_even c.args.settings.now c.args.table.now c.args.members.now c.args.members.now (objects_of c.args.report.now.values) (c.args.report.now ∷ []) c.in_ok-change.change (one_order c.args.report.now c.requires.report.some) (dealt_found c)

-- the same at the end
set_end : (c : goal.Joined-terms-3) → IsSet c.args.settings.now c.args.table.now c.args.members.now c.args.members.now (objects_of c.args.report.now.values) c.own_weight.result (to_z w128 (of_z w128 c.args.own_border)) c.in_ok-own_values.field-0
set_end c =
    let border : FitsSigned w128 c.args.own_border = omega (arith, ints) in
    let epsilon : FitsSigned w128 c.epsilon.result = omega (arith, ints) in
    set_of c.args.settings.now c.args.table.now c.args.members.now c.args.members.now (objects_of c.args.report.now.values) c.own_weight.result (to_z w128 (of_z w128 c.args.own_border)) (to_z w128 (of_z w128 c.epsilon.result)) c.in_ok-own_values.field-0
    c.own_weight.ensures.value (to_z-of_z w128 c.args.own_border border ∙ c.requires.border) (to_z-of_z w128 c.epsilon.result epsilon ∙ c.epsilon.ensures.value) c.in_ok-own_values.ensures

dealt_end : (c : goal.Joined-terms-3) → IsShortRound c.args.settings.now c.args.table.now c.args.members.now c.args.report.now c.in_ok-change.change
dealt_end c =
    let report = c.args.report.now in
    let terms = terms_of c.own_weight.result (to_z w128 (of_z w128 c.args.own_border)) c.in_ok-own_values.field-0 in
    set_round c.args.settings.now c.args.table.now c.args.members.now c.args.members.now (objects_of report.values) (report ∷ []) c.own_weight.result (to_z w128 (of_z w128 c.args.own_border)) c.in_ok-own_values.field-0 c.in_ok-change.change (set_end c)
    (subst (λ m. IsReallocation c.args.table.now (parts_of terms (report ∷ [])) (objects_of c.in_ok-own_values.field-0) m c.in_ok-change.change) c.in_ok-members.ensures
    (subst (λ (rs : List Reported). IsReallocation c.args.table.now (parts_of terms rs) (objects_of c.in_ok-own_values.field-0) c.in_ok-members.members c.in_ok-change.change) c.from_ref.ensures.value c.in_ok-change.ensures))

ended : (c : goal.Joined-terms-3) → IsEnded c.args.settings.now c.args.table.now c.args.members.now c.args.members.now (objects_of c.args.report.now.values) (c.args.report.now ∷ []) c.in_ok-change.change
ended c = short_ends c.args.settings.now c.args.table.now c.args.members.now c.args.report.now c.in_ok-change.change c.requires.ready c.requires.report c.requires.test (dealt_end c)

pub returns-clause-value : goal.returns-clause-value
returns-clause-value c =
    ok_so c.within_limit.result c.in_ok-change.change (λ r. IsShortRound c.args.settings.now c.args.table.now c.args.members.now c.args.report.now r) c.within_limit.ensures.same (dealt_end c)

pub returns-clause-within : goal.returns-clause-within
returns-clause-within c =
    ok_given c.within_limit.result c.in_ok-change.change (short_factors c.args.settings.now c.args.table.now c.args.members.now c.args.report.now)
    (is_even c.args.settings.now c.args.table.now c.args.members.now c.args.members.now (objects_of c.args.report.now.values) (c.args.report.now ∷ []) c.in_ok-change.change (one_order c.args.report.now c.requires.report.some) (dealt_end c)) (dealt_end c).factors c.within_limit.ensures.same c.within_limit.ensures.within

pub returns-clause-past : goal.returns-clause-past
returns-clause-past c = err_so c.within_limit.result c.in_ok-change.change (short_factors c.args.settings.now c.args.table.now c.args.members.now c.args.report.now) (dealt_end c).factors c.within_limit.ensures.past

pub returns-clause-fits : goal.returns-clause-fits
returns-clause-fits c =
    ok_within c.within_limit.result c.in_ok-change.change (λ r. IsReplacement c.args.table.now r) c.within_limit.ensures.same c.within_limit.ensures.within
    (ended_replaces c.args.settings.now c.args.table.now c.args.members.now c.args.members.now (objects_of c.args.report.now.values) (c.args.report.now ∷ []) c.in_ok-change.change (ended c))

pub returns-clause-own : goal.returns-clause-own
returns-clause-own c =
    ok_so c.within_limit.result c.in_ok-change.change (λ r. KeepsOwn c.args.table.now c.args.settings.now.epsilon r) c.within_limit.ensures.same
    (ended_keeps_own c.args.settings.now c.args.table.now c.args.members.now c.args.members.now (objects_of c.args.report.now.values) (c.args.report.now ∷ []) c.in_ok-change.change (ended c))

pub returns-clause-levels : goal.returns-clause-levels
returns-clause-levels c =
    ok_so c.within_limit.result c.in_ok-change.change (λ r. KeepsLevels c.args.table.now r c.args.report.now) c.within_limit.ensures.same
    (ended_keeps_levels c.args.settings.now c.args.table.now c.args.members.now c.args.members.now (objects_of c.args.report.now.values) (c.args.report.now ∷ []) c.in_ok-change.change (ended c) 0 c.args.report.now (omega arith))
