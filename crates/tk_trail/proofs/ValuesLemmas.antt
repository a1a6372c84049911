-- Values of objects at places, what one more change does to them, and how great they can be.
use Rattle.std.proofs.Common.{◌≡◌, ℕ, suc, zero, ◌<◌, ◌≤◌, ◌+◌, Bool, true, false, ◌==◌, cond, List, [], ◌∷◌, length, map, take, get_or, set, Some, subst, arith}
use Rattle.std.specs.Prelude.{ℤ, pos, ◌+ℤ◌, unsigned_abs, filter, slice_get, sum_by}
use Rattle.std.specs.List.{zip}
use Rattle.std.proofs.lemmas.Int.{ints}
use Rattle.std.proofs.lemmas.List.Sums.{sum_by-cons}
use Rattle.tk_base.specs.Sum.{int_sum}
use Rattle.tk_base.proofs.SumLemmas.{int_sum-cons}
use Rattle.tk_input.specs.Logs.{sum_for, value_of, weight_for}

-- what one change adds to the sum for an object
abbrev pub share_of : ℕ → ℕ × ℤ → ℤ
share_of o c = cond (c.0 == o) c.1 (pos 0)

abbrev pub weight_in : ℕ → ℕ × ℤ → ℕ
weight_in o c = cond (c.0 == o) (unsigned_abs c.1) 0

sum_for-cases : (b : Bool) (x : ℕ × ℤ) (rest : List (ℕ × ℤ)) → int_sum (map (λ (c : ℕ × ℤ). c.1) (cond b (x ∷ rest) rest)) ≡ cond b x.1 (pos 0) +ℤ int_sum (map (λ (c : ℕ × ℤ). c.1) rest)
sum_for-cases true x rest = int_sum-cons x.1 (map (λ (c : ℕ × ℤ). c.1) rest)
sum_for-cases false x rest = omega (arith, ints)

pub sum_for-cons : (o : ℕ) (x : ℕ × ℤ) (xs : List (ℕ × ℤ)) → sum_for o (x ∷ xs) ≡ share_of o x +ℤ sum_for o xs
sum_for-cons o x xs = sum_for-cases (x.0 == o) x (filter (λ c. c.0 == o) xs)

weight_for-cases : (b : Bool) (x : ℕ × ℤ) (rest : List (ℕ × ℤ)) → sum_by (λ (c : ℕ × ℤ). unsigned_abs c.1) (cond b (x ∷ rest) rest) ≡ cond b (unsigned_abs x.1) 0 + sum_by (λ (c : ℕ × ℤ). unsigned_abs c.1) rest
weight_for-cases true x rest = sum_by-cons (λ (c : ℕ × ℤ). unsigned_abs c.1) x rest
weight_for-cases false x rest = omega arith

pub weight_for-cons : (o : ℕ) (x : ℕ × ℤ) (xs : List (ℕ × ℤ)) → weight_for o (x ∷ xs) ≡ weight_in o x + weight_for o xs
weight_for-cons o x xs = weight_for-cases (x.0 == o) x (filter (λ c. c.0 == o) xs)

-- one more change of a part
pub sum_for-more : (o : ℕ) (xs : List (ℕ × ℤ)) (p : ℕ) (c : ℕ × ℤ) → slice_get xs p ≡ Some c → sum_for o (take (suc p) xs) ≡ sum_for o (take p xs) +ℤ share_of o c
sum_for-more o [] p c got = cc
sum_for-more o (x ∷ xs) zero c got =
    let is : x ≡ c = cc in
    subst (λ (y : ℕ × ℤ). sum_for o (x ∷ []) ≡ pos 0 +ℤ share_of o y) is (omega (arith, ints, sum_for-cons o x []))
sum_for-more o (x ∷ xs) (suc p) c got =
    omega (arith, ints, sum_for-cons o x (take (suc p) xs), sum_for-cons o x (take p xs), sum_for-more o xs p c got)

-- one part's place moves by one
pub value_of-set : (parts : List (List (ℕ × ℤ))) (places : List ℕ) (i o : ℕ) (c : ℕ × ℤ) → i < length parts → i < length places → slice_get (get_or parts i []) (get_or places i 0) ≡ Some c → value_of parts (set places i (suc (get_or places i 0))) o ≡ value_of parts places o +ℤ share_of o c
value_of-set [] places i o c within inside got = absurd (omega arith)
value_of-set (part ∷ parts) [] i o c within inside got = absurd (omega arith)
value_of-set (part ∷ parts) (place ∷ places) zero o c within inside got =
    let rest = map (λ (p : List (ℕ × ℤ) × ℕ). sum_for o (take p.1 p.0)) (zip parts places) in
    omega (arith, ints, int_sum-cons (sum_for o (take (suc place) part)) rest, int_sum-cons (sum_for o (take place part)) rest, sum_for-more o part place c got)
value_of-set (part ∷ parts) (place ∷ places) (suc i) o c within inside got =
    let now = set places i (suc (get_or places i 0)) in
    omega (
      arith,
      ints,
      int_sum-cons (sum_for o (take place part)) (map (λ (p : List (ℕ × ℤ) × ℕ). sum_for o (take p.1 p.0)) (zip parts now)),
      int_sum-cons (sum_for o (take place part)) (map (λ (p : List (ℕ × ℤ) × ℕ). sum_for o (take p.1 p.0)) (zip parts places)),
      value_of-set parts places i o c (omega arith) (omega arith) got,
    )

pub share_small : (b : Bool) (z : ℤ) → unsigned_abs (cond b z (pos 0)) ≤ cond b (unsigned_abs z) 0
share_small true z = omega arith
share_small false z = omega (arith, ints)
