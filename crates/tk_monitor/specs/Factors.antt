-- The factors that a monitor was assigned, by object. No public clause cites this file.
use Rattle.std.specs.Prelude.{◌≡◌, ◌^◌, ◌<◌, ◌≤◌, ℕ, zero, suc, ℤ, pos, unsigned_abs, List, length, map, ◌==◌, Option, Some, None, unwrap_or, cond, IsSome, All, slice_index_or}

-- the factor that is kept for an object, if one is; the first of the list is that of no object
abbrev pub kept_at : List (Option ℤ) → ℕ → Option ℤ
kept_at kept o = slice_index_or kept o None

-- the factor of an object: zero where none is kept
abbrev pub factor_in : List (Option ℤ) → ℕ → ℤ
factor_in kept o = unwrap_or (kept_at kept o) (pos 0)

-- the factors of the objects that some changes name
abbrev pub factors_over : List (Option ℤ) → List (ℕ × ℤ) → List (ℕ × ℤ)
factors_over kept changes = map (λ c. (c.0, factor_in kept c.0)) changes

-- a factor is kept for an object
abbrev pub HasFactor : List (Option ℤ) → ℕ → Type 0
HasFactor kept o = IsSome (kept_at kept o)

-- one object has another factor
abbrev pub IsWithFactor : List (Option ℤ) → ℕ → ℤ → List (Option ℤ) → Type 0
IsWithFactor old o factor new = (q : ℕ) → kept_at new q ≡ cond (q == o) (Some factor) (kept_at old q)

-- the factor of a slot, which is one more than a place in the list, or 0 for none
abbrev pub factor_at : List ℤ → ℕ → Option ℤ
factor_at list zero = None
factor_at list (suc k) = Some (slice_index_or list k (pos 0))

-- the factors that are kept, by the slot of each object
unfoldable pub kept_by : List ℕ → List ℤ → List (Option ℤ)
kept_by slots list = map (factor_at list) slots

-- each slot is of one object and in the list, and the factors are within the limit
pub record AreFactors (slots : List ℕ) (list : List ℤ) : Type 0 where
  pub within : (o : ℕ) → slice_index_or slots o 0 ≤ length list
  pub apart : (o q : ℕ) → 0 < slice_index_or slots o 0 → slice_index_or slots q 0 ≡ slice_index_or slots o 0 → q ≡ o
  pub small : All (λ z. unsigned_abs z ≤ 2 ^ 112) list

-- an object has got this slot
pub record HasGot (old new : List ℕ) (o slot : ℕ) : Type 0 where
  pub own : slice_index_or new o 0 ≡ slot
  pub others : (q : ℕ) → (q ≡ o → ⊥) → slice_index_or new q 0 ≡ slice_index_or old q 0
