-- What stands for a log: a base in its place, and what comes behind both.
use Rattle.std.specs.Prelude.{ℕ, ◌≡◌, ◌+◌, ◌-◌, ◌≤◌, ◌<◌, ℤ, ◌+ℤ◌, ◌-ℤ◌, pos, List, [], ◌++◌, length, map, take, slice_index_or}
use Rattle.std.specs.List.{zip}
use Rattle.tk_input.specs.Logs.{ArePlaces, IsValid, value_of}

-- the second parts behind the first
abbrev pub behind : List (List (ℕ × ℤ)) → List (List (ℕ × ℤ)) → List (List (ℕ × ℤ))
behind parts more = map (λ p. p.0 ++ p.1) (zip parts more)

-- the places at the ends of parts
abbrev pub ends_of : List (List (ℕ × ℤ)) → List ℕ
ends_of parts = map length parts

-- so many changes further
abbrev pub further : List ℕ → List ℕ → List ℕ
further places steps = map (λ p. p.0 + p.1) (zip places steps)

-- places that were counted from some beginnings, counted from others
abbrev pub moved : List ℕ → List ℕ → List ℕ → List ℕ
moved from counts places = map (λ p. p.1.0 + (p.1.1 - p.0)) (zip from (zip counts places))

-- the reached fronts
abbrev pub reached : List (List (ℕ × ℤ)) → List ℕ → List (List (ℕ × ℤ))
reached parts places = map (λ p. take p.1 p.0) (zip parts places)

-- a base stands for a log: as many parts, and at their ends the same values
pub record StandsFor (base log : List (List (ℕ × ℤ))) : Type 0 where
  pub shape : length base ≡ length log
  pub sums : (o : ℕ) → value_of base (ends_of base) o ≡ value_of log (ends_of log) o

-- these places are places of some parts, none in front of the beginnings
pub record ArePlacesBehind (base more : List (List (ℕ × ℤ))) (places : List ℕ) : Type 0 where
  pub shape : length more ≡ length base
  pub within : ArePlaces (behind base more) places
  pub behind_base : (i : ℕ) → slice_index_or (ends_of base) i 0 ≤ slice_index_or places i 0

-- the parts of all monitors, behind others
abbrev pub all_behind : List (List (List (ℕ × ℤ))) → List (List (List (ℕ × ℤ))) → List (List (List (ℕ × ℤ)))
all_behind logs more = map (λ p. behind p.0 p.1) (zip logs more)

-- a cut, counted from other beginnings
abbrev pub cut_moved : List (List (List (ℕ × ℤ))) → List (List (List (ℕ × ℤ))) → List (List ℕ) → List (List ℕ)
cut_moved bases logs cut = map (λ p. moved (ends_of p.0) (ends_of p.1.0) p.1.1) (zip bases (zip logs cut))

-- each base stands for the log of its monitor
pub record StandForLogs (bases logs more : List (List (List (ℕ × ℤ)))) : Type 0 where
  pub count : length bases ≡ length logs
  pub count_more : length more ≡ length logs
  pub each : (j : ℕ) → StandsFor (slice_index_or bases j []) (slice_index_or logs j [])
  pub shape : (j : ℕ) → length (slice_index_or more j []) ≡ length (slice_index_or bases j [])

-- the values at each such place are those of the true log, with what came later behind it, at the place that stands for it
abbrev pub ValuesAreThoseOfTheLog : Type 0
ValuesAreThoseOfTheLog =
    (base log more : List (List (ℕ × ℤ))) (places : List ℕ) (o : ℕ)
    → StandsFor base log → ArePlacesBehind base more places
    → value_of (behind base more) places o ≡ value_of (behind log more) (moved (ends_of base) (ends_of log) places) o

-- what stands for the reached fronts of a session's parts stands for the log with what was reached behind it
abbrev pub CompactedGoesOn : Type 0
CompactedGoesOn =
    (base log more next : List (List (ℕ × ℤ))) (steps : List ℕ)
    → StandsFor base log → length more ≡ length base → length steps ≡ length base
    → StandsFor next (reached (behind base more) (further (ends_of base) steps))
    → StandsFor next (behind log (reached more steps))

-- a set that is valid over what stands for the logs is valid over the logs
abbrev pub ValidMovesOver : Type 0
ValidMovesOver =
    (bases logs more : List (List (List (ℕ × ℤ)))) (n k : ℕ) (epsilon : ℤ) (cut : List (List ℕ)) (set : List ℕ)
    → StandForLogs bases logs more
    → ((j i : ℕ) → slice_index_or (ends_of (slice_index_or bases j [])) i 0 ≤ slice_index_or (slice_index_or cut j []) i 0)
    → IsValid (all_behind bases more) n k epsilon cut set
    → IsValid (all_behind logs more) n k epsilon (cut_moved bases logs cut) set

-- a place that is moved is its origin, which is the count without the start, and the place
abbrev pub MovedIsOriginAndPlace : Type 0
MovedIsOriginAndPlace =
    (from counts places : List ℕ) (i : ℕ)
    → length counts ≡ length from → length places ≡ length from → i < length from
    → slice_index_or from i 0 ≤ slice_index_or places i 0
    → pos (slice_index_or (moved from counts places) i 0) ≡ (pos (slice_index_or counts i 0) -ℤ pos (slice_index_or from i 0)) +ℤ pos (slice_index_or places i 0)
