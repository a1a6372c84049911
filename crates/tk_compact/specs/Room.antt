-- What a monitor that is told streams has room for, and what it makes of a record.
use Rattle.std.specs.Prelude.{ℕ, ◌≡◌, ◌⊎◌, ◌+◌, ◌-◌, ◌^◌, ◌<◌, ◌≤◌, ℤ, pos, ◌+ℤ◌, ◌==◌, if◌then◌else◌, unsigned_abs, List, [], ◌∷◌, ◌++◌, length, sum_by, slice_get, slice_index_or, Some}
use Rattle.tk_base.specs.declared.ids.Feeder.{Feeder}
use Rattle.tk_input.specs.Changes.{closing}
use Rattle.tk_input.specs.Logs.{IsObject}
use Rattle.tk_trail.specs.Growing.{grown}
use Rattle.tk_trail.specs.Legal.{HasNext, IsLegal, part_length, place_of}
use Rattle.tk_trail.specs.Readings.{value_of_object}
use Rattle.tk_trail.specs.Setup.{IsSetup, MonitorSetup}
use Rattle.tk_trail.specs.Slack.{sizes}
use Rattle.tk_trail.specs.declared.entry.Entry.{Entry}
use Rattle.tk_trail.specs.declared.entry.Entry.TheVariants.{Raised}

-- the sizes of all changes of some parts, summed
abbrev pub sizes_of : List (List (ℕ × ℤ)) → ℕ
sizes_of parts = sum_by sizes parts

-- a record fits: its part has room, and so has the sum of all sizes
pub record HasRoomFor (setup : MonitorSetup) (weight g : ℕ) (change : ℕ × ℤ) : Type 0 where
  pub part : part_length setup g < 1000000
  pub weight_fits : weight + unsigned_abs change.1 ≤ 2 ^ 100

-- the sizes of all changes are within a number that is within the limit
pub record IsWeighed (setup : MonitorSetup) (weight : ℕ) : Type 0 where
  pub weighed : sizes_of setup.parts ≤ weight
  pub bounded : weight ≤ 2 ^ 100

-- a stream is open: its closing record alone is left to raise
pub record IsOpenAt (setup : MonitorSetup) (trail : List Entry) (g : ℕ) : Type 0 where
  pub one_left : place_of setup trail g + 1 ≡ part_length setup g
  pub closes : slice_get (slice_index_or setup.parts (g - 1) []) (place_of setup trail g) ≡ Some closing

-- a stream is closed: nothing is left to raise
abbrev pub IsClosedAt : MonitorSetup → List Entry → ℕ → Type 0
IsClosedAt setup trail g = place_of setup trail g ≡ part_length setup g

-- each stream is open or closed
abbrev pub IsWaiting : MonitorSetup → List Entry → Type 0
IsWaiting setup trail = (g : ℕ) → 1 ≤ g → g ≤ length setup.parts → IsOpenAt setup trail g ⊎ IsClosedAt setup trail g

-- a record that fits leaves the setup within the limits, and weighed
abbrev pub GrownIsWithinTheLimits : Type 0
GrownIsWithinTheLimits =
    (setup : MonitorSetup) (trail : List Entry) (weight g : ℕ) (change : ℕ × ℤ)
    → IsSetup setup → IsWeighed setup weight → HasNext setup trail g → IsObject setup.objects change.0 → HasRoomFor setup weight g change
    → IsSetup (grown setup g change) × IsWeighed (grown setup g change) (weight + unsigned_abs change.1)

-- by how much a change changes an object
abbrev pub share_in : ℕ → ℕ × ℤ → ℤ
share_in o change = if change.0 == o then change.1 else pos 0

-- a record is told to an open stream, and raised: it counts once, and the stream is open as before
abbrev pub ToldCountsOnce : Type 0
ToldCountsOnce =
    (setup : MonitorSetup) (trail : List Entry) (feeder : Feeder) (change : ℕ × ℤ)
    → IsSetup setup → IsLegal setup trail → IsWaiting setup trail → HasNext setup trail feeder.0
    → IsLegal (grown setup feeder.0 change) (trail ++ Raised feeder ∷ [])
    × (IsWaiting (grown setup feeder.0 change) (trail ++ Raised feeder ∷ [])
    × (HasNext (grown setup feeder.0 change) (trail ++ Raised feeder ∷ []) feeder.0
    × ((o : ℕ) → value_of_object (grown setup feeder.0 change) (trail ++ Raised feeder ∷ []) o ≡ value_of_object setup trail o +ℤ share_in o change)))

-- the closing record of an open stream is raised: it changes no value, and the stream is closed then
abbrev pub ClosingCountsOnce : Type 0
ClosingCountsOnce =
    (setup : MonitorSetup) (trail : List Entry) (feeder : Feeder)
    → IsSetup setup → IsLegal setup trail → IsWaiting setup trail → HasNext setup trail feeder.0
    → IsLegal setup (trail ++ Raised feeder ∷ [])
    × (IsWaiting setup (trail ++ Raised feeder ∷ [])
    × (IsClosedAt setup (trail ++ Raised feeder ∷ []) feeder.0
    × ((o : ℕ) → value_of_object setup (trail ++ Raised feeder ∷ []) o ≡ value_of_object setup trail o)))
