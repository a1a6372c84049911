use Rattle.std.proofs.Common.{◌≡◌, ℕ, ℤ, Bool, true, false, arith, ap, sym, ◌∙◌, refl}
use Rattle.std.specs.Prelude.{FitsSigned}
use Rattle.std.specs.Int.{w128}
use Rattle.std.proofs.lemmas.Int.{to_z-of_z, ints}
use Rattle.tk_base.proofs.FindLemmas.{find_first, find_none, passed_more}
use Rattle.tk_coord.specs.Checks.{is_too_great}
use Rattle.tk_coord.proofs.checks.too_great.Goals as goal

abbrev great : ℕ × ℤ → Bool
great p = is_too_great p.1

pub returns-then-is_great : goal.returns-then-is_great
returns-then-is_great c =
    let fits : FitsSigned w128 c.at-value.result.1 = omega (arith, ints) in
    let here : is_too_great c.at-value.result.1 ≡ true = sym (ap is_too_great (to_z-of_z w128 c.at-value.result.1 fits)) ∙ sym c.is_great.ensures ∙ c.if-is_great.true in
    rw (find_first great c.args.values.now c.loop-i.i (c.at-value.result.0.0, c.at-value.result.1) c.loop-i.invariant c.at-value.ensures.value here) refl

pub loop-i-preserved : goal.loop-i-preserved
loop-i-preserved c =
    let fits : FitsSigned w128 c.at-value.result.1 = omega (arith, ints) in
    let here : is_too_great c.at-value.result.1 ≡ false = sym (ap is_too_great (to_z-of_z w128 c.at-value.result.1 fits)) ∙ sym c.is_great.ensures ∙ c.if-is_great.false in
    passed_more great c.args.values.now c.loop-i.i (c.at-value.result.0.0, c.at-value.result.1) c.loop-i.invariant c.at-value.ensures.value here

pub returns : goal.returns
returns c =
    rw (find_none great c.args.values.now (λ k d within. c.loop-i.invariant k d (omega (arith, c.len-i-end.ensures.value)))) refl
