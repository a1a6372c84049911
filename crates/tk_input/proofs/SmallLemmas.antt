-- So few changes of small amounts pass no limit.
use Rattle.std.proofs.Common.{◌≡◌, ℕ, suc, ◌+◌, ◌*◌, ◌≤◌, ◌^◌, ℤ, unsigned_abs, Bool, true, false, cond, None, List, [], ◌∷◌, length, refl, ap, arith}
use Rattle.std.specs.Prelude.{All, nat_lt, sum_by, ◌==◌}
use Rattle.std.proofs.lemmas.Bool.{le-ltb}
use Rattle.std.proofs.lemmas.List.Sums.{sum_by-cons}
use Rattle.tk_base.specs.Objects.{objects}
use Rattle.tk_input.specs.Changes.{AreSmall}
use Rattle.tk_input.specs.Judged.{great_object}
use Rattle.tk_input.specs.Logs.{updates_of, weight_for, weight_of}
use Rattle.tk_input.specs.Rows.{size_at}
use Rattle.tk_input.proofs.GreatLemmas.{find-range_none}
use Rattle.tk_input.proofs.SumLemmas.{weight_for-all}

one_small : (o : ℕ) (c : ℕ × ℤ) (b : Bool) → (c.0 == o) ≡ b → unsigned_abs c.1 ≤ 2 ^ 31 → size_at o c ≤ 2 ^ 31
one_small o c true is small = omega (arith, ap (λ (b : Bool). cond b (unsigned_abs c.1) 0) is, small)
one_small o c false is small = omega (arith, ap (λ (b : Bool). cond b (unsigned_abs c.1) 0) is)

part_small : (o : ℕ) (cs : List (ℕ × ℤ)) → AreSmall cs → sum_by (size_at o) cs ≤ 2 ^ 31 * length cs
part_small o [] small = omega arith
part_small o (c ∷ cs) small =
    let here = one_small o c (c.0 == o) refl (small 0 c (omega arith)) in
    let later = part_small o cs (λ k d h. small (suc k) d (omega arith)) in
    omega (arith, sum_by-cons (size_at o) c cs, here, later)

parts_small : (o : ℕ) (parts : List (List (ℕ × ℤ))) → All AreSmall parts → weight_of parts o ≤ 2 ^ 31 * updates_of parts
parts_small o [] small = omega arith
parts_small o (part ∷ parts) small =
    let here = part_small o part (small 0 part (omega arith)) in
    let later = parts_small o parts (λ k d h. small (suc k) d (omega arith)) in
    omega (arith, sum_by-cons (weight_for o) part parts, sum_by-cons length part parts, weight_for-all o part, here, later)

-- 4,000,000 amounts of at most 2^31 are far below 2^100
pub small_pass : (n : ℕ) (parts : List (List (ℕ × ℤ))) → All AreSmall parts → updates_of parts ≤ 4000000 → great_object n parts ≡ None
unfolding objects
small_pass n parts small few =
    find-range_none (λ o. nat_lt (2 ^ 100) (weight_of parts o)) 1 n (λ k h. le-ltb (2 ^ 100) (weight_of parts (1 + k)) (omega (arith, parts_small (1 + k) parts small, few)))
