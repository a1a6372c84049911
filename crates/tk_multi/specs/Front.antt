-- How far each part of some logs is raised.
use Rattle.std.specs.Prelude.{ℕ, ◌+◌, ◌-◌, ◌≤◌, List, length, set, slice_index_or}
use Rattle.tk_input.specs.Logs.{places_of}

-- the place of a feeder
abbrev pub place_of : List (List ℕ) → ℕ → ℕ → ℕ
place_of places mon feeder = slice_index_or (places_of places mon) (feeder - 1) 0

-- the places once one more change of a feeder is raised
abbrev pub raised : List (List ℕ) → ℕ → ℕ → List (List ℕ)
raised places mon feeder = set places (mon - 1) (set (places_of places mon) (feeder - 1) (place_of places mon feeder + 1))

-- there is a place of a feeder
pub record HasPlace (places : List (List ℕ)) (mon feeder : ℕ) : Type 0 where
  pub from_one : 1 ≤ mon
  pub monitor : mon ≤ length places
  pub some : 1 ≤ feeder
  pub within : feeder ≤ length (places_of places mon)
