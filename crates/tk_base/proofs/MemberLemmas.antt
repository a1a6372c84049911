-- Membership as a test.
use Rattle.std.specs.Prelude.{All}
use Rattle.std.proofs.Common.{◌≡◌, ℕ, suc, zero, List, [], ◌∷◌, Contains, true, ◌||◌, ap, ◌∙◌, arith, eq-eqb, ne_eqb, inl, inr, false, sym, refl, length, ◌≤◌}
use Rattle.std.proofs.lemmas.Bool.{cases_eq, true≢false, false_from_ne_true}
use Rattle.std.proofs.lemmas.List.FromFn.{length-range_with_len, get_or-range_with_len}
use Rattle.tk_base.specs.Objects.{is_in, objects}

-- what a list contains passes the test
pub contained_is_in : (xs : List ℕ) (o : ℕ) → Contains xs o → is_in xs o ≡ true
contained_is_in [] o (k, within, is) = absurd (omega arith)
contained_is_in (x ∷ xs) o (zero, within, is) = ap (λ b. b || is_in xs o) (eq-eqb x o is)
contained_is_in (x ∷ xs) o (suc k, within, is) = elim (cases_eq x o) [
  | inl same ↦ ap (λ b. b || is_in xs o) (eq-eqb x o same)
  | inr other ↦ ap (λ b. b || is_in xs o) (ne_eqb x o other) ∙ contained_is_in xs o (k, omega arith, is)
]

-- what passes the test, it contains
pub is_in_contained : (xs : List ℕ) (o : ℕ) → is_in xs o ≡ true → Contains xs o
is_in_contained [] o e = absurd (true≢false (sym e))
is_in_contained (x ∷ xs) o e = elim (cases_eq x o) [
  | inl same ↦ (zero, omega arith, same)
  | inr other ↦
      let rest = is_in_contained xs o (sym (ap (λ b. b || is_in xs o) (ne_eqb x o other)) ∙ e) in
      (suc rest.0, omega (arith, rest.1), rest.2)
]

-- what it does not contain fails the test
pub outside_is_not_in : (xs : List ℕ) (o : ℕ) → (Contains xs o → ⊥) → is_in xs o ≡ false
outside_is_not_in xs o none = false_from_ne_true (is_in xs o) (λ e. none (is_in_contained xs o e))

-- the first of a list is in it
pub is_in-head : (q : ℕ) (mons : List ℕ) → is_in (q ∷ mons) q ≡ true
is_in-head q mons = ap (λ b. b || is_in mons q) (eq-eqb q q refl)

-- a catalogue has as many objects as it counts
pub length-objects : (n : ℕ) → length (objects n) ≡ n
unfolding objects
length-objects n = length-range_with_len 1 n

-- none of its objects is past that number
pub objects_within : (n : ℕ) → All (λ o. o ≤ n) (objects n)
unfolding objects
objects_within n k d below = omega (arith, get_or-range_with_len 1 n k d (omega (arith, length-range_with_len 1 n)), length-range_with_len 1 n)
