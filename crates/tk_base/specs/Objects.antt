-- The objects of a catalogue, and membership in a list of objects.
use Rattle.std.specs.Prelude.{ℕ, Bool, List, ◌==◌, ◌≤◌}
use Rattle.std.specs.List.{range_with_len, list_any}

-- the objects of a catalogue of n, from 1
unfoldable pub objects : ℕ → List ℕ
objects n = range_with_len 1 n

-- whether an object is one of these
abbrev pub is_in : List ℕ → ℕ → Bool
is_in list o = list_any (λ q. q == o) list

-- a number is one of so many, from 1
abbrev pub IsOneOf : ℕ → ℕ → Type 0
IsOneOf many number = (1 ≤ number) × (number ≤ many)
