-- The laws of shares.
use Rattle.std.proofs.Common.{FitsSigned, to_z, of_z, ◌≡◌, ℕ, suc, zero, ◌+◌, ◌-◌, ◌*◌, ◌%◌, ◌/◌, ◌<◌, ◌≤◌, min, Bool, cond, ◌&&◌, nat_le, nat_lt, ℤ, pos, negsuc, neg_ℤ, ◌+ℤ◌, ◌*ℤ◌, ◌≤ℤ◌, List, length, get_or, refl, sym, ap, ◌∙◌, arith, add-one}
use Rattle.std.specs.Prelude.{unsigned_abs, ◌^◌}
use Rattle.std.specs.Int.{w128, int_div_euclid, int_rem_euclid}
use Rattle.std.specs.List.{sum}
use Rattle.std.proofs.lemmas.List.Sums.{sum_by_more, sum_by_more_le}
use Rattle.std.proofs.lemmas.List.{take_all}
use Rattle.std.proofs.lemmas.Bool.Decides.{nat_tests}
use Rattle.std.proofs.lemmas.Int.{ints, to_z-of_z}
use Rattle.std.proofs.lemmas.Nat.{mod_below, div-add-mod'}
use Rattle.std.proofs.Math.Nat.{mul-le-mul_left}
use Rattle.tk_base.specs.Sum.{int_sum}
use Rattle.tk_share.specs.Shares.{weight_before, owns, remainder, units, owned_units, share, shares}
use Rattle.tk_share.proofs.Counting.{passing, total_below, count_mapped, passing_le, passing_grows, passing_is, falling_is, passing_each_once, int_sum_pos, int_sum_neg}

-- whether a participant owns the number i counted up from 0, and counted down from -1
abbrev pub owns_up : List ℕ → ℕ → ℕ → Bool
owns_up weights p i = owns weights p (i % sum weights)

abbrev pub owns_down : List ℕ → ℕ → ℕ → Bool
owns_down weights p i = owns weights p (sum weights - 1 - i % sum weights)

pub units_up : (weights : List ℕ) (p n : ℕ) → owned_units weights p (pos n) ≡ passing (owns_up weights p) n
unfolding owned_units units
units_up weights p n = count_mapped (λ u. owns weights p (remainder (sum weights) u)) pos n

pub units_down : (weights : List ℕ) (p n : ℕ) → owned_units weights p (negsuc n) ≡ passing (owns_down weights p) (suc n)
unfolding owned_units units
units_down weights p n = count_mapped (λ u. owns weights p (remainder (sum weights) u)) negsuc (suc n)

pub share_up : (weights : List ℕ) (p n : ℕ) → share weights p (pos n) ≡ pos (passing (owns_up weights p) n)
unfolding share
share_up weights p n = ap pos (units_up weights p n)

pub share_down : (weights : List ℕ) (p n : ℕ) → share weights p (negsuc n) ≡ neg_ℤ (pos (passing (owns_down weights p) (suc n)))
unfolding share
share_down weights p n = ap (λ (u : ℕ). neg_ℤ (pos u)) (units_down weights p n)

-- ---- the laws

pub share_size : (weights : List ℕ) (p : ℕ) (leeway : ℤ) → unsigned_abs (share weights p leeway) ≤ unsigned_abs leeway
share_size weights p (pos n) = rw share_up (passing_le (owns_up weights p) n)
share_size weights p (negsuc n) = rw share_down (omega (arith, ints, passing_le (owns_down weights p) (suc n)))

pub share_of_no_debt : (weights : List ℕ) (p : ℕ) (leeway : ℤ) → pos 0 ≤ℤ leeway → pos 0 ≤ℤ share weights p leeway
share_of_no_debt weights p (pos n) h = rw share_up (omega (arith, ints))
share_of_no_debt weights p (negsuc n) h = absurd (omega (arith, ints))

pub share_grows : (weights : List ℕ) (p : ℕ) (less more : ℤ) → less ≤ℤ more → share weights p less ≤ℤ share weights p more
share_grows weights p (pos a) (pos b) h = rw (share_up weights p a, share_up weights p b) (omega (arith, ints, passing_grows (owns_up weights p) a b (omega (arith, ints))))
share_grows weights p (pos a) (negsuc b) h = absurd (omega (arith, ints))
share_grows weights p (negsuc a) (pos b) h = rw (share_down weights p a, share_up weights p b) (omega (arith, ints))
share_grows weights p (negsuc a) (negsuc b) h = rw (share_down weights p a, share_down weights p b) (omega (arith, ints, passing_grows (owns_down weights p) (suc b) (suc a) (omega (arith, ints))))

last_owner : (r low width high sum : ℕ) → high ≡ low + width → sum ≡ cond (nat_lt r low) 1 0 → sum + cond (nat_le low r && nat_lt r (low + width)) 1 0 ≡ cond (nat_lt r high) 1 0
last_owner r low width high sum e h = grind (arith, nat_tests)

none_below : (r n : ℕ) → n ≡ 0 → n ≡ cond (nat_lt r 0) 1 0
none_below r n h = grind (arith, nat_tests)

below_all : (r high sum : ℕ) → sum ≡ cond (nat_lt r high) 1 0 → r < high → sum ≡ 1
below_all r high sum told h = grind (arith, nat_tests)

-- below the weight before a participant one of those before it owns a remainder
pub owners_before : (weights : List ℕ) (r k : ℕ) → k ≤ length weights → total_below (λ p. cond (owns weights p r) 1 0) k ≡ cond (nat_lt r (weight_before weights k)) 1 0
owners_before weights r zero h = none_below r 0 refl
owners_before weights r (suc k) h =
    let before = owners_before weights r k (omega arith) in
    let more : weight_before weights (suc k) ≡ weight_before weights k + get_or weights k 0 = ap (weight_before weights) (sym (add-one k)) ∙ sum_by_more (λ x. x) weights k 0 (omega arith) in
    last_owner r (weight_before weights k) (get_or weights k 0) (weight_before weights (suc k)) (total_below (λ p. cond (owns weights p r) 1 0) k) more before

-- each remainder has one owner
pub one_owner : (weights : List ℕ) (r : ℕ) → r < sum weights → total_below (λ p. cond (owns weights p r) 1 0) (length weights) ≡ 1
one_owner weights r h =
    let all : weight_before weights (length weights) ≡ sum weights = ap sum (take_all (length weights) weights (omega arith)) in
    let told = owners_before weights r (length weights) (omega arith) in
    below_all r (weight_before weights (length weights)) (total_below (λ p. cond (owns weights p r) 1 0) (length weights)) told (omega arith)

pub shares_sum : (weights : List ℕ) (leeway : ℤ) → 0 < sum weights → int_sum (shares weights leeway) ≡ leeway
unfolding shares
shares_sum weights (pos n) some =
    simp share_up
    (int_sum_pos (λ p. passing (owns_up weights p) n) (length weights)
    ∙ ap pos (passing_each_once (owns_up weights) (length weights) (λ i. one_owner weights (i % sum weights) (mod_below i (sum weights) some)) n))
shares_sum weights (negsuc n) some =
    simp share_down
    (int_sum_neg (λ p. passing (owns_down weights p) (suc n)) (length weights)
    ∙ ap (λ (u : ℕ). neg_ℤ (pos u)) (passing_each_once (owns_down weights) (length weights) (λ i. one_owner weights (sum weights - 1 - i % sum weights) (omega arith)) (suc n)))

-- ---- the quotient and the remainder

pub weight_fits : (weights : List ℕ) (p : ℕ) → p < length weights → weight_before weights p + get_or weights p 0 ≤ sum weights
weight_fits weights p h = sum_by_more_le (λ x. x) weights p 0 h

-- a share is the quotient's part and what of the remainder is owned
pub share_is : (weights : List ℕ) (p : ℕ) (leeway : ℤ) → p < length weights → 0 < sum weights
    → int_div_euclid leeway (pos (sum weights)) *ℤ pos (get_or weights p 0) +ℤ pos (min (unsigned_abs (int_rem_euclid leeway (pos (sum weights))) - weight_before weights p) (get_or weights p 0)) ≡ share weights p leeway
share_is weights p (pos n) h some =
    rw share_up (ap pos (sym (passing_is (weight_before weights p) (get_or weights p 0) (sum weights) n some (weight_fits weights p h))))
share_is weights p (negsuc n) h some =
    let told = falling_is (weight_before weights p) (get_or weights p 0) (sum weights) n some (weight_fits weights p h) in
    rw share_down (omega (arith, ints, told))

-- the quotient's part is no greater than the leeway and one total
pub part_size : (leeway : ℤ) (total own : ℕ) → 0 < total → own ≤ total → unsigned_abs (int_div_euclid leeway (pos total) *ℤ pos own) ≤ unsigned_abs leeway + total
part_size (pos n) total own some h =
    let most : n / total * own ≤ n / total * total = mul-le-mul_left (n / total) h in
    omega (arith, ints, most, div-add-mod' n total)
part_size (negsuc n) total own some h =
    let most : suc (n / total) * own ≤ suc (n / total) * total = mul-le-mul_left (suc (n / total)) h in
    omega (arith, ints, most, div-add-mod' n total)

-- an operation that is passed on gives its own value
pub quotient_is : (leeway total whole : ℤ) (w : ℕ) → unsigned_abs leeway < 2 ^ 122 → total ≡ pos w → w ≤ 1064
    → whole ≡ int_div_euclid (to_z w128 (of_z w128 leeway)) (to_z w128 (of_z w128 total)) → whole ≡ int_div_euclid leeway (pos w)
quotient_is leeway total whole w small is few told =
    let left : FitsSigned w128 leeway = omega (arith, ints) in
    let right : FitsSigned w128 total = omega (arith, ints) in
    told ∙ ap (λ (z : ℤ). int_div_euclid z (to_z w128 (of_z w128 total))) (to_z-of_z w128 leeway left)
    ∙ ap (int_div_euclid leeway) (to_z-of_z w128 total right ∙ is)

pub remainder_is : (leeway total rest : ℤ) (w : ℕ) → unsigned_abs leeway < 2 ^ 122 → total ≡ pos w → w ≤ 1064
    → rest ≡ int_rem_euclid (to_z w128 (of_z w128 leeway)) (to_z w128 (of_z w128 total)) → rest ≡ int_rem_euclid leeway (pos w)
remainder_is leeway total rest w small is few told =
    let left : FitsSigned w128 leeway = omega (arith, ints) in
    let right : FitsSigned w128 total = omega (arith, ints) in
    told ∙ ap (λ (z : ℤ). int_rem_euclid z (to_z w128 (of_z w128 total))) (to_z-of_z w128 leeway left)
    ∙ ap (int_rem_euclid leeway) (to_z-of_z w128 total right ∙ is)

-- what the code computes of a leeway: the quotient, the remainder and what of it is owned
pub record IsDealt (weights : List ℕ) (p : ℕ) (leeway whole own rest : ℤ) (owned : ℕ) : Type 0 where
  pub quotient : whole ≡ int_div_euclid leeway (pos (sum weights))
  pub weight : own ≡ pos (get_or weights p 0)
  pub remainder : rest ≡ int_rem_euclid leeway (pos (sum weights))
  pub kept : owned ≡ min (unsigned_abs rest - weight_before weights p) (get_or weights p 0)

pub dealt_is : (weights : List ℕ) (p : ℕ) (leeway whole own rest : ℤ) (owned : ℕ) → p < length weights → 0 < sum weights → IsDealt weights p leeway whole own rest owned
    → whole *ℤ own +ℤ pos owned ≡ share weights p leeway
dealt_is weights p leeway whole own rest owned h some d =
    rw (d.kept, d.remainder, d.quotient, d.weight) (share_is weights p leeway h some)

pub dealt_part : (weights : List ℕ) (p : ℕ) (leeway whole own : ℤ) → p < length weights → 0 < sum weights
    → whole ≡ int_div_euclid leeway (pos (sum weights)) → own ≡ pos (get_or weights p 0) → unsigned_abs (whole *ℤ own) ≤ unsigned_abs leeway + sum weights
dealt_part weights p leeway whole own h some w o =
    rw (w, o) (part_size leeway (sum weights) (get_or weights p 0) some (omega (arith, weight_fits weights p h)))
