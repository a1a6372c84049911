-- One change for each object whose value is not zero.
use Rattle.std.proofs.Common.{◌≡◌, ℕ, suc, zero, ◌<◌, ◌≤◌, ◌+◌, ◌-◌, Bool, true, false, not, ◌==◌, cond, List, [], ◌∷◌, ◌++◌, length, take, get_or, refl, ap, ◌∙◌, subst, arith, eq-eqb, ne_eqb}
use Rattle.std.specs.Prelude.{ℤ, pos, ◌+ℤ◌, unsigned_abs, All, filter}
use Rattle.std.specs.List.{enumerate_from}
use Rattle.std.proofs.lemmas.Bool.{not-false}
use Rattle.std.proofs.lemmas.Int.{ints}
use Rattle.std.proofs.lemmas.List.Elements.{All-cons, All-nil}
use Rattle.std.proofs.lemmas.Map.Views.{exact_unsigned_eq}
use Rattle.tk_input.specs.Logs.{IsObject, sum_for, weight_for}
use Rattle.tk_trail.proofs.ValuesLemmas.{share_of, sum_for-cons, weight_for-cons, weight_in}
use Rattle.tk_compact.specs.Compacted.{changes_something, compacted}

-- what is left of one value and more
abbrev kept : Bool → ℕ × ℤ → List (ℕ × ℤ) → List (ℕ × ℤ)
kept b c rest = cond b (c ∷ rest) rest

nothing : (v : ℤ) → not (unsigned_abs v == 0) ≡ false → v ≡ pos 0
nothing v is = let zero' : unsigned_abs v ≡ 0 = exact_unsigned_eq (unsigned_abs v) 0 (not-false (unsigned_abs v == 0) is) in omega (arith, ints, zero')

share_zero : (b : Bool) (v : ℤ) → v ≡ pos 0 → cond b v (pos 0) ≡ pos 0
share_zero true v none = none
share_zero false v none = refl

weight_zero : (b : Bool) (v : ℤ) → v ≡ pos 0 → cond b (unsigned_abs v) 0 ≡ 0
weight_zero true v none = omega (arith, ints, none)
weight_zero false v none = refl

-- a value adds itself to the sum of its own object alone
sum_kept : (b : Bool) (a : ℕ) (v : ℤ) (rest : List (ℕ × ℤ)) (o : ℕ) → not (unsigned_abs v == 0) ≡ b → sum_for o (kept b (a, v) rest) ≡ share_of o (a, v) +ℤ sum_for o rest
sum_kept true a v rest o is = sum_for-cons o (a, v) rest
sum_kept false a v rest o is = (let none = nothing v is in let e : share_of o (a, v) ≡ pos 0 = share_zero (a == o) v none in omega (arith, ints, e))

weight_kept : (b : Bool) (a : ℕ) (v : ℤ) (rest : List (ℕ × ℤ)) (o : ℕ) → not (unsigned_abs v == 0) ≡ b → weight_for o (kept b (a, v) rest) ≡ weight_in o (a, v) + weight_for o rest
weight_kept true a v rest o is = weight_for-cons o (a, v) rest
weight_kept false a v rest o is = (let none = nothing v is in let e : weight_in o (a, v) ≡ 0 = weight_zero (a == o) v none in omega (arith, e))

-- the changes of some values, numbered from a
abbrev of_values : ℕ → List ℤ → List (ℕ × ℤ)
of_values a values = filter changes_something (enumerate_from a values)

own_share : (a o : ℕ) (v : ℤ) → a ≡ o → share_of o (a, v) ≡ v
own_share a o v is = ap (λ b. cond b v (pos 0)) (eq-eqb a o is)

other_share : (a o : ℕ) (v : ℤ) → (a ≡ o → ⊥) → share_of o (a, v) ≡ pos 0
other_share a o v apart = ap (λ b. cond b v (pos 0)) (ne_eqb a o apart)

own_weight : (a o : ℕ) (v : ℤ) → a ≡ o → weight_in o (a, v) ≡ unsigned_abs v
own_weight a o v is = ap (λ b. cond b (unsigned_abs v) 0) (eq-eqb a o is)

other_weight : (a o : ℕ) (v : ℤ) → (a ≡ o → ⊥) → weight_in o (a, v) ≡ 0
other_weight a o v apart = ap (λ b. cond b (unsigned_abs v) 0) (ne_eqb a o apart)

-- objects that no value is of
sum_none : (a : ℕ) (values : List ℤ) (o : ℕ) → ((k : ℕ) → k < length values → a + k ≡ o → ⊥) → sum_for o (of_values a values) ≡ pos 0
sum_none a [] o none = refl
sum_none a (v ∷ values) o none =
    omega (
      arith,
      ints,
      sum_kept (changes_something (a, v)) a v (of_values (a + 1) values) o refl,
      other_share a o v (λ is. none 0 (omega arith) (omega (arith, is))),
      sum_none (a + 1) values o (λ k within is. none (suc k) (omega (arith, within)) (omega (arith, is))),
    )

weight_none : (a : ℕ) (values : List ℤ) (o : ℕ) → ((k : ℕ) → k < length values → a + k ≡ o → ⊥) → weight_for o (of_values a values) ≡ 0
weight_none a [] o none = refl
weight_none a (v ∷ values) o none =
    omega (
      arith,
      weight_kept (changes_something (a, v)) a v (of_values (a + 1) values) o refl,
      other_weight a o v (λ is. none 0 (omega arith) (omega (arith, is))),
      weight_none (a + 1) values o (λ k within is. none (suc k) (omega (arith, within)) (omega (arith, is))),
    )

-- the object of a value
sum_at : (a : ℕ) (values : List ℤ) (k : ℕ) → k < length values → sum_for (a + k) (of_values a values) ≡ get_or values k (pos 0)
sum_at a [] k within = absurd (omega (arith, within))
sum_at a (v ∷ values) zero within =
    omega (
      arith,
      ints,
      sum_kept (changes_something (a, v)) a v (of_values (a + 1) values) (a + 0) refl,
      own_share a (a + 0) v (omega arith),
      sum_none (a + 1) values (a + 0) (λ k inside is. omega (arith, is)),
    )
sum_at a (v ∷ values) (suc k) within =
    let o : a + suc k ≡ (a + 1) + k = omega arith in
    rw o (omega (
      arith,
      ints,
      sum_kept (changes_something (a, v)) a v (of_values (a + 1) values) ((a + 1) + k) refl,
      other_share a ((a + 1) + k) v (λ is. omega (arith, is)),
      sum_at (a + 1) values k (omega (arith, within)),
    ))

weight_at : (a : ℕ) (values : List ℤ) (k : ℕ) → k < length values → weight_for (a + k) (of_values a values) ≡ unsigned_abs (get_or values k (pos 0))
weight_at a [] k within = absurd (omega (arith, within))
weight_at a (v ∷ values) zero within =
    omega (
      arith,
      weight_kept (changes_something (a, v)) a v (of_values (a + 1) values) (a + 0) refl,
      own_weight a (a + 0) v (omega arith),
      weight_none (a + 1) values (a + 0) (λ k inside is. omega (arith, is)),
    )
weight_at a (v ∷ values) (suc k) within =
    let o : a + suc k ≡ (a + 1) + k = omega arith in
    rw o (omega (
      arith,
      weight_kept (changes_something (a, v)) a v (of_values (a + 1) values) ((a + 1) + k) refl,
      other_weight a ((a + 1) + k) v (λ is. omega (arith, is)),
      weight_at (a + 1) values k (omega (arith, within)),
    ))

-- the sums are the values, and the weights their sizes
pub compacted_sums : (values : List ℤ) (o : ℕ) → 1 ≤ o → o ≤ length values → (sum_for o (compacted values) ≡ get_or values (o - 1) (pos 0)) × (weight_for o (compacted values) ≡ unsigned_abs (get_or values (o - 1) (pos 0)))
unfolding compacted
compacted_sums values o low high =
    let is : 1 + (o - 1) ≡ o = omega (arith, low) in (
      subst (λ (q : ℕ). sum_for q (compacted values) ≡ get_or values (o - 1) (pos 0)) is (sum_at 1 values (o - 1) (omega (arith, low, high))),
      subst (λ (q : ℕ). weight_for q (compacted values) ≡ unsigned_abs (get_or values (o - 1) (pos 0))) is (weight_at 1 values (o - 1) (omega (arith, low, high))),
    )

-- limits
few_kept : (b : Bool) (c : ℕ × ℤ) (rest : List (ℕ × ℤ)) → length (kept b c rest) ≤ 1 + length rest
few_kept true c rest = omega arith
few_kept false c rest = omega arith

few : (a : ℕ) (values : List ℤ) → length (of_values a values) ≤ length values
few a [] = omega arith
few a (v ∷ values) = omega (arith, few_kept (changes_something (a, v)) (a, v) (of_values (a + 1) values), few (a + 1) values)

objects_kept : (n : ℕ) (b : Bool) (c : ℕ × ℤ) (rest : List (ℕ × ℤ)) → IsObject n c.0 → All (λ (d : ℕ × ℤ). IsObject n d.0) rest → All (λ (d : ℕ × ℤ). IsObject n d.0) (kept b c rest)
objects_kept n true c rest here all = All-cons (λ (d : ℕ × ℤ). IsObject n d.0) c rest here all
objects_kept n false c rest here all = all

objects_of : (n a : ℕ) (values : List ℤ) → 1 ≤ a → a + length values ≤ n + 1 → All (λ (d : ℕ × ℤ). IsObject n d.0) (of_values a values)
objects_of n a [] low high = All-nil (λ (d : ℕ × ℤ). IsObject n d.0)
objects_of n a (v ∷ values) low high =
    objects_kept n (changes_something (a, v)) (a, v) (of_values (a + 1) values) (low, omega (arith, high)) (objects_of n (a + 1) values (omega arith) (omega (arith, high)))

-- there are few changes, of objects of the catalogue, and nothing of any other
pub compacted_limits : (values : List ℤ) → (length (compacted values) ≤ length values) × (All (λ (c : ℕ × ℤ). IsObject (length values) c.0) (compacted values) × ((o : ℕ) → (IsObject (length values) o → ⊥) → weight_for o (compacted values) ≡ 0))
unfolding compacted
compacted_limits values = (
  few 1 values,
  (
    objects_of (length values) 1 values (omega arith) (omega arith),
    λ o out. weight_none 1 values o (λ k within is. out (omega (arith, is), omega (arith, is, within))),
  ),
)

-- one value more
kept_first : (b : Bool) (c : ℕ × ℤ) (xs ys : List (ℕ × ℤ)) → kept b c (xs ++ ys) ≡ kept b c xs ++ ys
kept_first true c xs ys = refl
kept_first false c xs ys = refl

kept_alone : (b : Bool) (c : ℕ × ℤ) → kept b c [] ≡ [] ++ cond b (c ∷ []) []
kept_alone true c = refl
kept_alone false c = refl

pub taken_more : (a : ℕ) (values : List ℤ) (i : ℕ) (d : ℤ) → i < length values → filter changes_something (enumerate_from a (take (suc i) values)) ≡ filter changes_something (enumerate_from a (take i values)) ++ cond (changes_something (a + i, get_or values i d)) ((a + i, get_or values i d) ∷ []) []
taken_more a [] i d within = absurd (omega (arith, within))
taken_more a (v ∷ values) zero d within =
    let e : a + 0 ≡ a = omega arith in
    rw e (kept_alone (changes_something (a, v)) (a, v))
taken_more a (v ∷ values) (suc i) d within =
    let e : a + suc i ≡ (a + 1) + i = omega arith in
    rw e (
    ap (λ (rest : List (ℕ × ℤ)). kept (changes_something (a, v)) (a, v) rest) (taken_more (a + 1) values i d (omega (arith, within)))
    ∙ kept_first (changes_something (a, v)) (a, v) (filter changes_something (enumerate_from (a + 1) (take i values))) (cond (changes_something ((a + 1) + i, get_or values i d)) (((a + 1) + i, get_or values i d) ∷ []) [])
    )
