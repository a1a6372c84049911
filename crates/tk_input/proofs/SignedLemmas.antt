-- Sums of numbers of 128 bits that stay small.
use Rattle.std.proofs.Common.{◌≡◌, ◌≤◌, ◌^◌, ℤ, ◌+ℤ◌, unsigned_abs, arith}
use Rattle.std.specs.Prelude.{FitsSigned}
use Rattle.std.specs.Int.{w128}
use Rattle.std.proofs.lemmas.Int.{to_z-of_z, ints}
use mir.Val.{to_z, of_z}

-- the sum of a number and one that was passed on fits
pub add_fits : (s t all : ℤ) → all ≡ s +ℤ t → FitsSigned w128 t → unsigned_abs all ≤ 2 ^ 110 → FitsSigned w128 (s +ℤ to_z w128 (of_z w128 t))
add_fits s t all is small bound = let back = to_z-of_z w128 t small in omega (arith, ints, back, is)

-- and is their sum
pub add_is : (s t all : ℤ) → all ≡ s +ℤ t → FitsSigned w128 t → unsigned_abs all ≤ 2 ^ 110 → to_z w128 (of_z w128 (s +ℤ to_z w128 (of_z w128 t))) ≡ all
add_is s t all is small bound =
    let back = to_z-of_z w128 t small in
    let fits = add_fits s t all is small bound in
    let same = to_z-of_z w128 (s +ℤ to_z w128 (of_z w128 t)) fits in
    omega (arith, ints, back, is, same)
