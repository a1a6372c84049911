-- The records of a file, each a list of fields, and what they make one after the other.
use Rattle.std.specs.Prelude.{ℕ, Bool, false, List, [], ◌∷◌, Result, Ok, Err}
use Rattle.csv.specs.Reading.{default_config, records, strip_bom}

-- the records that csv reads, of any lengths, with no header row and after a byte order mark
abbrev pub records_in : List ℕ → List (List (List ℕ))
records_in bytes = records default_config (strip_bom bytes)

-- what comes of a value, unless there was a fault
abbrev pub and_then : {A B E : Type 0} → (A → Result B E) → Result A E → Result B E
and_then further (Ok x) = further x
and_then further (Err e) = Err e

-- what some rows make in turn of what was there, or the fault of the first that has one
unfoldable pub through : {A R E : Type 0} → (A → R → Result A E) → A → List R → Result A E
through step before [] = Ok before
through step before (row ∷ rest) = and_then (λ after. through step after rest) (step before row)

-- whether a read found a record
abbrev pub found_in : {E : Type 0} → Result Bool E → Bool
found_in (Ok found) = found
found_in (Err e) = false
