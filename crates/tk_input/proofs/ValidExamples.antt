-- A set that is valid, one that is not, and cuts that are none: objects a and b, the change `a,5` at the
-- first monitor and `b,3` at the second, k 1 and epsilon 0.
use Rattle.std.proofs.Common.{◌≡◌, ℕ, suc, zero, ◌≤◌, ℤ, pos, List, [], ◌∷◌, length, refl, sym, arith}
use Rattle.std.specs.Prelude.{◌≤ℤ◌, ◌+ℤ◌, All, Contains, slice_index_or}
use Rattle.std.proofs.lemmas.Int.{ints}
use Rattle.tk_base.specs.Ascending.{IsAscending}
use Rattle.tk_input.specs.Logs.{ArePlaces, IsCut, IsValid, full_cut, total}

abbrev logs : List (List (List (ℕ × ℤ)))
logs = (((1, pos 5) ∷ []) ∷ []) ∷ (((2, pos 3) ∷ []) ∷ []) ∷ []

-- one place at the end of one part of one change
one_place : (c : ℕ × ℤ) → ArePlaces ((c ∷ []) ∷ []) (1 ∷ [])
one_place c = record { shape = refl; within = at }
  where
    at : (f : ℕ) → slice_index_or (1 ∷ []) f 0 ≤ length {A = ℕ × ℤ} (slice_index_or ((c ∷ []) ∷ []) f [])
    at zero = omega arith
    at (suc f) = omega arith

-- the full cut is one
full_cut_is_a_cut : IsCut logs (full_cut logs)
full_cut_is_a_cut = record { shape = refl; each = at }
  where
    at : (j : ℕ) → ArePlaces (slice_index_or logs j []) (slice_index_or (full_cut logs) j [])
    at zero = one_place (1, pos 5)
    at (suc zero) = one_place (2, pos 3)
    at (suc (suc j)) = record { shape = refl; within = λ f. omega arith }

only_one : (n t : ℕ) → Contains (n ∷ []) t → t ≡ n
only_one n t (zero, within, is) = sym is
only_one n t (suc i, within, is) = absurd (omega arith)

at_most : (low high : ℕ) → low ≤ high → pos low ≤ℤ (pos high +ℤ pos 0)
at_most low high below = omega (arith, ints, below)

-- in the full cut a has 5 and b has 3, so the set of a is valid
pub a_is_valid : IsValid logs 2 1 (pos 0) (full_cut logs) (1 ∷ [])
a_is_valid = record {
  is_cut = full_cut_is_a_cut;
  size = refl;
  ascends = first;
  within = most;
  greatest = λ t s is_in some few out. least t s (only_one 1 t is_in) some few out;
}
  where
    first : IsAscending (1 ∷ [])
    first zero within = omega arith
    first (suc i) within = absurd (omega arith)

    most : All (λ t. t ≤ 2) (1 ∷ [])
    most zero d within = omega arith
    most (suc i) d within = absurd (omega arith)

    least : (t s : ℕ) → t ≡ 1 → 1 ≤ s → s ≤ 2 → (Contains (1 ∷ []) s → ⊥) → total logs s (full_cut logs) ≤ℤ (total logs t (full_cut logs) +ℤ pos 0)
    least t zero is some few out = absurd (omega arith)
    least t (suc zero) is some few out = absurd (out (0, omega arith, refl))
    least t (suc (suc zero)) is some few out = rw is (at_most 3 5 (omega arith))
    least t (suc (suc (suc s))) is some few out = absurd (omega arith)

-- the set of b is not
pub b_is_not_valid : IsValid logs 2 1 (pos 0) (full_cut logs) (2 ∷ []) → ⊥
b_is_not_valid valid = let under : pos 5 ≤ℤ pos 3 = valid.greatest 2 1 (0, omega arith, refl) (omega arith) (omega arith) (λ is_in. absurd (other is_in)) in absurd (omega (arith, ints, under))
  where
    other : Contains {X = ℕ} (2 ∷ []) 1 → ⊥
    other is_in = let wrong : 1 ≡ 2 = only_one 2 1 is_in in absurd (omega (arith, wrong))

-- a cut of one monitor is none, so no set is valid there
pub half_a_cut : (set : List ℕ) → IsValid logs 2 1 (pos 0) ((1 ∷ []) ∷ []) set → ⊥
half_a_cut set valid = let short : 1 ≡ 2 = valid.is_cut.shape in absurd (omega (arith, short))

-- nor is one past the end of a part
pub past_the_end : IsCut logs ((2 ∷ []) ∷ (1 ∷ []) ∷ []) → ⊥
past_the_end cut = let past : 2 ≤ 1 = (cut.each 0).within 0 in absurd (omega (arith, past))
