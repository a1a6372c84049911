-- Values as a log: one change for each object whose value is not zero.
use Rattle.std.specs.Prelude.{ℕ, ◌≡◌, ◌-◌, ◌≤◌, ℤ, pos, Bool, not, ◌==◌, All, unsigned_abs, List, length, filter, slice_index_or}
use Rattle.std.specs.List.{enumerate_from}
use Rattle.tk_input.specs.Logs.{IsObject, sum_for, weight_for}

-- whether a change changes something
abbrev pub changes_something : ℕ × ℤ → Bool
changes_something c = not (unsigned_abs c.1 == 0)

-- one change for each object whose value is not zero
unfoldable pub compacted : List ℤ → List (ℕ × ℤ)
compacted values = filter changes_something (enumerate_from 1 values)

-- it has the values as its sums, and no more weight
abbrev pub CompactedHasTheSums : Type 0
CompactedHasTheSums =
    (values : List ℤ) (o : ℕ) → 1 ≤ o → o ≤ length values
    → (sum_for o (compacted values) ≡ slice_index_or values (o - 1) (pos 0))
    × (weight_for o (compacted values) ≡ unsigned_abs (slice_index_or values (o - 1) (pos 0)))

-- it is short, of objects of the catalogue, and of no other object it has any weight
abbrev pub CompactedIsWithinTheLimits : Type 0
CompactedIsWithinTheLimits =
    (values : List ℤ)
    → (length (compacted values) ≤ length values)
    × (All (λ c. IsObject (length values) c.0) (compacted values)
    × ((o : ℕ) → (IsObject (length values) o → ⊥) → weight_for o (compacted values) ≡ 0))
