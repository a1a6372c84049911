use Rattle.std.proofs.Common.{◌≡◌, ℤ, true, false, arith, ap, sym, ◌∙◌, refl}
use Rattle.std.specs.Prelude.{FitsSigned}
use Rattle.std.specs.Int.{w128}
use Rattle.std.proofs.lemmas.Int.{to_z-of_z, ints}
use Rattle.tk_base.proofs.FindLemmas.{find_first, find_none, passed_more}
use Rattle.tk_trail.specs.Refusal.{is_bad_change}
use Rattle.tk_monitor.proofs.refusals.first_bad.Goals as goal

pub returns-then-is_bad : goal.returns-then-is_bad
returns-then-is_bad c =
    let fits : FitsSigned w128 c.at-factor.result.1 = omega (arith, ints) in
    let bad : is_bad_change c.args.objects (c.at-factor.result.0.0, c.at-factor.result.1) ≡ true =
    sym (ap (λ (z : ℤ). is_bad_change c.args.objects (c.at-factor.result.0.0, z)) (to_z-of_z w128 c.at-factor.result.1 fits)) ∙ sym c.is_bad.ensures ∙ c.if-is_bad.true in
    rw (find_first (is_bad_change c.args.objects) c.args.changes.now c.loop-i.i (c.at-factor.result.0.0, c.at-factor.result.1) c.loop-i.invariant c.at-factor.ensures.value bad) refl

pub loop-i-preserved : goal.loop-i-preserved
loop-i-preserved c =
    let fits : FitsSigned w128 c.at-factor.result.1 = omega (arith, ints) in
    let good : is_bad_change c.args.objects (c.at-factor.result.0.0, c.at-factor.result.1) ≡ false =
    sym (ap (λ (z : ℤ). is_bad_change c.args.objects (c.at-factor.result.0.0, z)) (to_z-of_z w128 c.at-factor.result.1 fits)) ∙ sym c.is_bad.ensures ∙ c.if-is_bad.false in
    passed_more (is_bad_change c.args.objects) c.args.changes.now c.loop-i.i (c.at-factor.result.0.0, c.at-factor.result.1) c.loop-i.invariant c.at-factor.ensures.value good

pub returns : goal.returns
returns c =
    rw (find_none (is_bad_change c.args.objects) c.args.changes.now (λ k d within. c.loop-i.invariant k d (omega (arith, c.len-i-end.ensures.value)))) refl
