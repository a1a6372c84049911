-- Sums of whole numbers.
use Rattle.std.specs.List.{fold}
use Rattle.std.proofs.Common.{◌≡◌, ℤ, pos, ◌+ℤ◌, List, [], ◌∷◌, ◌∙◌, arith}
use Rattle.std.proofs.lemmas.Int.{ints}
use Rattle.tk_base.specs.Sum.{int_sum}

-- a sum begun elsewhere
pub int_sum_from : (z : ℤ) (xs : List ℤ) → fold ◌+ℤ◌ z xs ≡ z +ℤ int_sum xs
int_sum_from z [] = omega (arith, ints)
int_sum_from z (x ∷ xs) = int_sum_from (z +ℤ x) xs ∙ omega (arith, ints, int_sum_from (pos 0 +ℤ x) xs)

-- a sum with one more number in front
pub int_sum-cons : (x : ℤ) (xs : List ℤ) → int_sum (x ∷ xs) ≡ x +ℤ int_sum xs
int_sum-cons x xs = int_sum_from (pos 0 +ℤ x) xs ∙ omega (arith, ints)
