-- A monitor that begins anew behind what stands for its past.
use Rattle.std.specs.Prelude.{ℕ, ◌≡◌, ◌↔◌, ◌-◌, ◌<◌, ℤ, List, [], ◌∷◌, length, map, drop, slice_index_or, sum_by, unsigned_abs, Bool, nat_lt, if◌then◌else◌}
use Rattle.std.specs.List.{zip}
use Rattle.tk_input.specs.Changes.{closing}
use Rattle.tk_trail.specs.Growing.{grown, grown_parts}
use Rattle.tk_trail.specs.Legal.{HasNext, IsLegal}
use Rattle.tk_trail.specs.Readings.{places_at, value_of_object, values_of}
use Rattle.tk_trail.specs.Setup.{IsSetup, MonitorSetup}
use Rattle.tk_trail.specs.declared.entry.Entry.{Entry}
use Rattle.tk_compact.specs.Compacted.{compacted}
use Rattle.tk_compact.specs.Room.{IsWaiting, IsWeighed}
use Rattle.tk_compact.specs.Standing.{StandsFor, behind, ends_of, reached}

-- what stands for the past of a monitor: its values in the first part, and nothing in the others
abbrev pub base_of : MonitorSetup → List Entry → List (List (ℕ × ℤ))
base_of setup trail = compacted (values_of setup trail) ∷ map (λ part. []) (drop 1 setup.parts)

-- the closing record of a stream, where it is open
abbrev pub closer : Bool → List (ℕ × ℤ)
closer opened = if opened then closing ∷ [] else []

-- the closing records of the streams that are open
abbrev pub closers : List Bool → List (List (ℕ × ℤ))
closers open_ones = map closer open_ones

-- the monitor anew: each part is its base, and the closing record where the stream is open; it starts behind the base
abbrev pub anew : MonitorSetup → List Entry → List Bool → MonitorSetup
anew setup trail open_ones = record setup {
  parts = behind (base_of setup trail) (closers open_ones);
  from = ends_of (base_of setup trail);
}

-- which streams are open: those whose place is not the end of their part
abbrev pub open_streams : MonitorSetup → List Entry → List Bool
open_streams setup trail = map (λ p. nat_lt p.1 (length p.0)) (zip setup.parts (places_at setup trail))

-- the sizes of the values, summed
abbrev pub size_of_values : MonitorSetup → List Entry → ℕ
size_of_values setup trail = sum_by (λ v. unsigned_abs v) (values_of setup trail)

-- the base stands for what was reached
abbrev pub BaseStandsForWhatWasReached : Type 0
BaseStandsForWhatWasReached =
    (setup : MonitorSetup) (trail : List Entry)
    → IsSetup setup → IsLegal setup trail
    → StandsFor (base_of setup trail) (reached setup.parts (places_at setup trail))

-- behind its base a monitor is within its limits, weighed by its values, and each stream waits
abbrev pub AnewIsASetup : Type 0
AnewIsASetup =
    (setup : MonitorSetup) (trail : List Entry) (weight : ℕ) (open_ones : List Bool)
    → IsSetup setup → IsLegal setup trail → IsWeighed setup weight → length open_ones ≡ length setup.parts
    → IsSetup (anew setup trail open_ones)
    × (IsWeighed (anew setup trail open_ones) (size_of_values setup trail)
    × IsWaiting (anew setup trail open_ones) [])

-- what is open goes on then, what is closed does not, and each value is what it was
abbrev pub AnewIsAsBefore : Type 0
AnewIsAsBefore =
    (setup : MonitorSetup) (trail : List Entry)
    → IsSetup setup → IsLegal setup trail
    → ((g : ℕ) → HasNext (anew setup trail (open_streams setup trail)) [] g ↔ HasNext setup trail g)
    × ((o : ℕ) → value_of_object (anew setup trail (open_streams setup trail)) [] o ≡ value_of_object setup trail o)

-- a session's setup: its parts are a base with more behind it, and it starts behind the base
pub record StartsBehind (setup : MonitorSetup) (base more : List (List (ℕ × ℤ))) : Type 0 where
  pub parts : setup.parts ≡ behind base more
  pub from : setup.from ≡ ends_of base
  pub shape : length more ≡ length base

-- so it is with a monitor that begins anew, and with one whose stream gives a record more
abbrev pub SessionsKeepTheirBase : Type 0
SessionsKeepTheirBase =
    ((setup : MonitorSetup) (trail : List Entry) (open_ones : List Bool)
    → IsSetup setup → length open_ones ≡ length setup.parts
    → StartsBehind (anew setup trail open_ones) (base_of setup trail) (closers open_ones))
    × ((setup : MonitorSetup) (base more : List (List (ℕ × ℤ))) (g : ℕ) (change : ℕ × ℤ)
    → StartsBehind setup base more → 0 < length (slice_index_or more (g - 1) [])
    → StartsBehind (grown setup g change) base (grown_parts more g change))

-- how many changes of each stream were raised since the base
abbrev pub raised_since : List (List (ℕ × ℤ)) → MonitorSetup → List Entry → List ℕ
raised_since base setup trail = map (λ p. p.1 - p.0) (zip (ends_of base) (places_at setup trail))

-- from session to session: where a base stands for true logs, the next base stands for these with what was raised behind them
abbrev pub BasesStandForTheTrueLogs : Type 0
BasesStandForTheTrueLogs =
    (setup : MonitorSetup) (trail : List Entry) (base log more : List (List (ℕ × ℤ)))
    → IsSetup setup → IsLegal setup trail → StartsBehind setup base more → StandsFor base log
    → StandsFor (base_of setup trail) (behind log (reached more (raised_since base setup trail)))
