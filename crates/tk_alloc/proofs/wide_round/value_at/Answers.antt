use Rattle.std.proofs.Common.{ℕ, ℤ, sym, ap, ◌∙◌, arith, FitsSigned}
use Rattle.std.specs.Int.{w128}
use Rattle.std.proofs.lemmas.Int.{ints, to_z-of_z}
use Rattle.std.proofs.lemmas.List.{length-map}
use Rattle.tk_base.specs.Pairs.{objects_of}
use Rattle.tk_alloc.specs.Parts.{value_of}
use Rattle.tk_alloc.proofs.PartLemmas.{is_read}
use Rattle.tk_alloc.proofs.wide_round.value_at.Goals as goal

pub returns-clause-value : goal.returns-clause-value
returns-clause-value c =
    let fits : FitsSigned w128 c.at-value.result.1 = omega (arith, ints) in
    let r = is_read c.args.report.now.values (objects_of c.args.objects.now) c.args.place c.at-value.result.0.0 c.at-value.result.1 c.requires.values c.at-value.ensures.ascends
    (omega (arith, length-map c.args.objects.now (λ (p : ℕ × ℤ). p.0))) c.at-value.ensures.value in
    to_z-of_z w128 c.at-value.result.1 fits ∙ sym r.value ∙ ap (value_of c.args.report.now.values) (sym r.at)

pub returns-clause-size : goal.returns-clause-size
returns-clause-size c =
    let fits : FitsSigned w128 c.at-value.result.1 = omega (arith, ints) in
    let r = is_read c.args.report.now.values (objects_of c.args.objects.now) c.args.place c.at-value.result.0.0 c.at-value.result.1 c.requires.values c.at-value.ensures.ascends
    (omega (arith, length-map c.args.objects.now (λ (p : ℕ × ℤ). p.0))) c.at-value.ensures.value in
    rw (to_z-of_z w128 c.at-value.result.1 fits) r.small
