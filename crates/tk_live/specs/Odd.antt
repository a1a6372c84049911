-- What some end was given next and did not take. No public clause cites it.
use Rattle.std.specs.Prelude.{ℕ, ◌≡◌, ◌<◌, ◌⊎◌, List, length, slice_index_or, true, Option, None, is_some}
use Rattle.tk_base.specs.declared.ids.Mon.{Mon}
use Rattle.tk_story.specs.declared.ends.received.Received.{Received}

-- the coordinator has something odd, or the monitor at some place has
abbrev pub IsSomeOdd : Option (Mon × Received) → List (Option Received) → Type 0
IsSomeOdd odd odds = (is_some odd ≡ true) ⊎ ((place : ℕ) × ((place < length odds) × (is_some (slice_index_or odds place None) ≡ true)))
