use Rattle.std.proofs.Common.{◌≡◌, ◌<◌, ◌+◌, ℕ, zero, suc, List, ◌++◌, length, get_or, take, drop, replicate, refl, arith, subst, sym, ap, ◌∙◌}
use Rattle.std.proofs.Math.Seq.{take-append_seam}
use Rattle.tk_input.specs.Logs.{weight_of}
use Rattle.tk_input.specs.Rows.{capped}
use Rattle.tk_input.proofs.logs.weights.weights_of.Goals as goal

seam : (xs ys : List ℕ) (n : ℕ) → n ≡ length xs → take n (xs ++ ys) ≡ xs
seam xs ys n is = ap (λ (m : ℕ). take m (xs ++ ys)) is ∙ take-append_seam xs ys

zero_at : (n i z : ℕ) → get_or (replicate n z) i z ≡ z
zero_at zero i z = refl
zero_at (suc n) zero z = refl
zero_at (suc n) (suc i) z = zero_at n i z

pub returns : goal.returns
returns c =
    let new = c.weigh_all.new.weights in
    let items = c.in_ok-weights.weights.items in
    let size : length new ≡ c.args.objects = omega (arith, c.weigh_all.auto.weights, c.as_mut_slice.ensures.len, c.in_ok-weights.ensures.len) in
    let same : take c.in_ok-weights.weights.len (new ++ drop (length new) items) ≡ new = seam new (drop (length new) items) c.in_ok-weights.weights.len (omega (arith, size, c.in_ok-weights.ensures.len)) in
    let zeros : items ≡ replicate c.args.objects 0 = c.in_ok-weights.ensures.items_if_clones_equal (λ y e. e) in
    record {
      size = subst (λ (xs : List ℕ). length xs ≡ c.args.objects) (sym same) size;
      weights = subst (λ (xs : List ℕ). (i : ℕ) → i < length xs → get_or xs i 0 ≡ capped (weight_of c.args.row.now (i + 1))) (sym same) (λ i within. omega (arith, c.weigh_all.ensures i within, ap (λ (xs : List ℕ). get_or xs i 0) (c.as_mut_slice.ensures.value ∙ zeros), zero_at c.args.objects i 0));
    }
