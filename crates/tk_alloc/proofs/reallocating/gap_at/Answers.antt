use Rattle.std.proofs.Common.{ℕ, ℤ, length, get_or, ◌∙◌, ◌≤◌, subst, arith, FitsSigned}
use Rattle.std.specs.Int.{w128}
use Rattle.std.proofs.lemmas.Int.{ints, to_z-of_z}
use Rattle.std.proofs.lemmas.List.{length-map}
use Rattle.tk_base.specs.Pairs.{objects_of}
use Rattle.tk_alloc.specs.Parts.{monitor}
use Rattle.tk_alloc.specs.Terms.{border_by}
use Rattle.tk_alloc.proofs.PartLemmas.{IsRead, is_read, above_is}
use Rattle.tk_alloc.proofs.reallocating.gap_at.Goals as goal

read : (c : goal.After-at-arg-1) → IsRead c.args.report.now.values (objects_of c.args.terms.now.own_values) c.args.place c.at-value.result.0.0 c.at-value.result.1
read c =
    is_read c.args.report.now.values (objects_of c.args.terms.now.own_values) c.args.place c.at-value.result.0.0 c.at-value.result.1 c.requires.part.values c.at-value.ensures.ascends
    (omega (arith, length-map c.args.terms.now.own_values (λ (p : ℕ × ℤ). p.0))) c.at-value.ensures.value

pub at-requires-clause-some : goal.at-requires-clause-some
at-requires-clause-some c = (read c).positive

pub at-requires-clause-within : goal.at-requires-clause-within
at-requires-clause-within c =
    let bound = c.requires.objects c.args.place 0 (omega (arith, length-map c.args.terms.now.own_values (λ (p : ℕ × ℤ). p.0))) in
    subst (λ (o : ℕ). o ≤ length c.args.table.now.rows) (read c).at bound

pub gap-requires-clause-value : goal.gap-requires-clause-value
gap-requires-clause-value c =
    let fits : FitsSigned w128 c.at-value.result.1 = omega (arith, ints) in
    let r = is_read c.args.report.now.values (objects_of c.args.terms.now.own_values) c.args.place c.at-value.result.0.0 c.at-value.result.1 c.requires.part.values c.at-value.ensures.ascends
    (omega (arith, length-map c.args.terms.now.own_values (λ (p : ℕ × ℤ). p.0))) c.at-value.ensures.value in
    rw (to_z-of_z w128 c.at-value.result.1 fits) r.small

pub returns-clause-value : goal.returns-clause-value
returns-clause-value c =
    let fits : FitsSigned w128 c.at-value.result.1 = omega (arith, ints) in
    let factor : FitsSigned w128 c.at.result = omega (arith, ints) in
    let border : FitsSigned w128 c.at-2.result = omega (arith, ints) in
    let gap : FitsSigned w128 c.gap.result = omega (arith, ints) in
    let r = is_read c.args.report.now.values (objects_of c.args.terms.now.own_values) c.args.place c.at-value.result.0.0 c.at-value.result.1 c.requires.part.values c.at-value.ensures.ascends
    (omega (arith, length-map c.args.terms.now.own_values (λ (p : ℕ × ℤ). p.0))) c.at-value.ensures.value in
    to_z-of_z w128 c.gap.result gap
    ∙ rw (to_z-of_z w128 c.at-value.result.1 fits, to_z-of_z w128 c.at.result factor, to_z-of_z w128 c.at-2.result border) at c.gap.ensures.value
    ∙ above_is c.args.table.now (monitor (border_by c.args.terms.now.borders c.args.report.now) c.args.report.now) (get_or (objects_of c.args.terms.now.own_values) c.args.place 0) c.at-value.result.0.0 c.at-value.result.1 c.at.result c.at-2.result r.at r.value c.at.ensures.value c.at-2.ensures
