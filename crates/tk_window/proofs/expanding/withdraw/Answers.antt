use Rattle.std.proofs.Common.{◌≡◌, ℕ, ◌<◌, ◌^◌, ℤ, pos, ◌-ℤ◌, neg_ℤ, unsigned_abs, FitsSigned, to_z, of_z, List, [], ◌∷◌, ◌++◌, take, append_assoc, ap, sym, subst, ◌∙◌, arith}
use Rattle.std.specs.Int.{w128}
use Rattle.std.proofs.lemmas.Int.{ints, to_z-of_z}
use Rattle.std.proofs.lemmas.Option.{get_or_from_slice_get, slice_get_within}
use Rattle.tk_input.specs.Changes.{pair_of}
use Rattle.tk_input.proofs.TakingLemmas.{map_one_more}
use Rattle.tk_window.specs.Window.{withdrawn}
use Rattle.tk_window.proofs.expanding.withdraw.Goals as goal

-- an amount of at most 38 digits, negated
negated : (z : ℤ) → FitsSigned w128 z → unsigned_abs z < 2 ^ 127 → to_z w128 (of_z w128 (pos 0 -ℤ to_z w128 (of_z w128 z))) ≡ neg_ℤ z
negated z fits small =
    let less : FitsSigned w128 (pos 0 -ℤ z) = omega (arith, ints, small) in
    let same : pos 0 -ℤ z ≡ neg_ℤ z = omega (arith, ints) in
    ap (λ (w : ℤ). to_z w128 (of_z w128 (pos 0 -ℤ w))) (to_z-of_z w128 z fits) ∙ to_z-of_z w128 (pos 0 -ℤ z) less ∙ same

pub loop-i-preserved : goal.loop-i-preserved
loop-i-preserved c =
    let list = c.args.list.now in
    let changes = c.args.changes.now in
    let i = c.loop-i.i in
    let here = pair_of c.at-change.result in
    let is = c.at-change.ensures in
    let back : ℕ × ℤ → ℕ × ℤ = λ p. (p.0, neg_ℤ p.1) in
    let fits : FitsSigned w128 here.1 = omega (arith, ints) in
    let small : unsigned_abs here.1 < 2 ^ 127 = subst (λ (p : ℕ × ℤ). unsigned_abs p.1 < 2 ^ 127) (get_or_from_slice_get changes i here here is) (c.requires i here (slice_get_within changes i here is)) in
    c.in_ok-push.ensures.ok
    ∙ ap (λ (z : ℤ). c.loop-i.list ++ (here.0, z) ∷ []) (negated here.1 fits small)
    ∙ ap (λ (all : List (ℕ × ℤ)). all ++ back here ∷ []) c.loop-i.invariant
    ∙ append_assoc list (withdrawn (take i changes)) (back here ∷ [])
    ∙ ap (λ (more : List (ℕ × ℤ)). list ++ more) (sym (map_one_more back changes i here is))
