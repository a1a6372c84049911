-- The rows of the logs as lists, the sizes of changes, and weights that stand still at the greatest u128.
use Rattle.std.specs.Prelude.{ℕ, ◌-◌, ◌^◌, ◌==◌, ℤ, unsigned_abs, min, List, map, Vec, if◌then◌else◌}

-- the rows of parts as lists
abbrev pub logs_in : {A : Type 0} → List (Vec (List (ℕ × ℤ)) A) → List (List (List (ℕ × ℤ)))
logs_in rows = map (λ row. row.items) rows

-- the size of a change, if it is of the object
abbrev pub size_at : ℕ → ℕ × ℤ → ℕ
size_at o c = if c.0 == o then unsigned_abs c.1 else 0

-- a sum that stands still at the greatest u128
abbrev pub capped : ℕ → ℕ
capped weight = min weight (2 ^ 128 - 1)
