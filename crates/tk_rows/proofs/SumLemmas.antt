-- Sums of whole numbers, and rows of zeros.
use Rattle.std.proofs.Common.{◌≡◌, ℕ, suc, zero, ◌<◌, ℤ, pos, ◌+ℤ◌, List, [], ◌∷◌, length, get_or, set, replicate, refl, ◌∙◌, arith}
use Rattle.std.proofs.lemmas.Int.{ints}
use Rattle.tk_base.specs.Sum.{int_sum}
use Rattle.tk_base.proofs.SumLemmas.{int_sum-cons}

pub int_sum-set : (xs : List ℤ) (i : ℕ) (y : ℤ) → i < length xs → int_sum (set xs i y) +ℤ get_or xs i (pos 0) ≡ int_sum xs +ℤ y
int_sum-set [] i y h = absurd (omega arith)
int_sum-set (x ∷ xs) zero y h = omega (arith, ints, int_sum-cons y xs, int_sum-cons x xs)
int_sum-set (x ∷ xs) (suc i) y h =
    let rest = int_sum-set xs i y (omega arith) in
    omega (arith, ints, int_sum-cons x xs, int_sum-cons x (set xs i y))

pub int_sum_zeros : (n : ℕ) → int_sum (replicate n (pos 0)) ≡ pos 0
int_sum_zeros zero = refl
int_sum_zeros (suc n) = int_sum-cons (pos 0) (replicate n (pos 0)) ∙ omega (arith, ints, int_sum_zeros n)

pub zeros_at : (n i : ℕ) → get_or (replicate n (pos 0)) i (pos 0) ≡ pos 0
zeros_at zero i = refl
zeros_at (suc n) zero = refl
zeros_at (suc n) (suc i) = zeros_at n i
