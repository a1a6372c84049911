use Rattle.std.proofs.Common.{◌≡◌, ◌<◌, ℕ, ℤ, List, Bool, true, false, not, length, Some, arith, ap, ap₂, sym, ◌∙◌, refl}
use Rattle.std.specs.Prelude.{FitsSigned}
use Rattle.std.specs.Int.{w128}
use Rattle.std.proofs.lemmas.Int.{to_z-of_z, ints}
use Rattle.std.proofs.lemmas.Option.{slice_get-get_or}
use Rattle.tk_base.proofs.FindLemmas.{find_first, find_none, passed_more}
use Rattle.tk_border.specs.Levels.{is_above}
use Rattle.tk_journal.specs.Refusal.{Known, least_in, level_in}
use Rattle.tk_coord.specs.Checks.{known_in}
use Rattle.tk_coord.proofs.checks.not_broken.Goals as goal

abbrev whole : Known → List (ℕ × ℤ) → ℕ → Bool
whole known values o = not (is_above (least_in known values) (level_in known values o))

pub returns-then-not-is_above : goal.returns-then-not-is_above
returns-then-not-is_above c =
    let known = known_in c.args.known in
    let fits : FitsSigned w128 c.level.result = omega (arith, ints) in
    let within : c.loop-i.i < length c.args.failed.now = omega (arith, c.len-i-end.ensures.value) in
    let level : _ ≡ level_in known c.args.values.now c.at-o.result.0 = to_z-of_z w128 c.level.result fits ∙ c.level.ensures in
    let bad : whole known c.args.values.now c.at-o.result.0 ≡ true = ap not (sym (c.is_above.ensures ∙ ap₂ is_above c.requires.least level) ∙ c.if-not-is_above.true) in
    rw (find_first (whole known c.args.values.now) c.args.failed.now c.loop-i.i c.at-o.result.0 c.loop-i.invariant
    (slice_get-get_or c.args.failed.now c.loop-i.i 0 within ∙ ap Some (sym c.at-o.ensures.value)) bad) refl

pub loop-i-preserved : goal.loop-i-preserved
loop-i-preserved c =
    let known = known_in c.args.known in
    let fits : FitsSigned w128 c.level.result = omega (arith, ints) in
    let within : c.loop-i.i < length c.args.failed.now = omega (arith, c.len-i-end.ensures.value) in
    let level : _ ≡ level_in known c.args.values.now c.at-o.result.0 = to_z-of_z w128 c.level.result fits ∙ c.level.ensures in
    let good : whole known c.args.values.now c.at-o.result.0 ≡ false = ap not (sym (c.is_above.ensures ∙ ap₂ is_above c.requires.least level) ∙ c.if-not-is_above.false) in
    passed_more (whole known c.args.values.now) c.args.failed.now c.loop-i.i c.at-o.result.0 c.loop-i.invariant
    (slice_get-get_or c.args.failed.now c.loop-i.i 0 within ∙ ap Some (sym c.at-o.ensures.value)) good

pub returns : goal.returns
returns c =
    rw (find_none (whole (known_in c.args.known) c.args.values.now) c.args.failed.now (λ k d within. c.loop-i.invariant k d (omega (arith, c.len-i-end.ensures.value)))) refl
