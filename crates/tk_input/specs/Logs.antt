-- Logs and cuts: values, totals, and what makes a set valid.
-- A part is a list of changes, each an object and a whole number. The logs have for each monitor a list
-- of parts, one per feeder. A cut has for each monitor and feeder a place: so many changes are reached.
use Rattle.std.specs.Prelude.{◌≡◌, ℕ, ◌-◌, ◌^◌, ◌≤◌, ℤ, ◌+ℤ◌, ◌≤ℤ◌, unsigned_abs, List, [], length, map, filter, take, sum_by, ◌==◌, slice_index_or, All, Contains}
use Rattle.std.specs.List.{zip}
use Rattle.tk_base.specs.Ascending.{IsAscending}
use Rattle.tk_base.specs.Sum.{int_sum}
use Rattle.tk_base.specs.Objects.{IsOneOf}

-- the changes of one object, summed
abbrev pub sum_for : ℕ → List (ℕ × ℤ) → ℤ
sum_for o changes = int_sum (map (λ c. c.1) (filter (λ c. c.0 == o) changes))

-- the value of an object at a monitor: the sum of its changes in the reached front of each part
abbrev pub value_of : List (List (ℕ × ℤ)) → List ℕ → ℕ → ℤ
value_of parts places o = int_sum (map (λ p. sum_for o (take p.1 p.0)) (zip parts places))

-- the parts of a monitor
abbrev pub parts_of : List (List (List (ℕ × ℤ))) → ℕ → List (List (ℕ × ℤ))
parts_of logs mon = slice_index_or logs (mon - 1) []

-- the places of a monitor in a cut
abbrev pub places_of : List (List ℕ) → ℕ → List ℕ
places_of cut mon = slice_index_or cut (mon - 1) []

-- the value of an object at monitor mon of the logs
abbrev pub value : List (List (List (ℕ × ℤ))) → ℕ → ℕ → List (List ℕ) → ℤ
value logs mon o cut = value_of (parts_of logs mon) (places_of cut mon) o

-- the total of an object: its values over all monitors
abbrev pub total : List (List (List (ℕ × ℤ))) → ℕ → List (List ℕ) → ℤ
total logs o cut = int_sum (map (λ p. value_of p.0 p.1 o) (zip logs cut))

-- one place per part, none past its end
pub record ArePlaces (parts : List (List (ℕ × ℤ))) (places : List ℕ) : Type 0 where
  pub shape : length places ≡ length parts
  pub within : (f : ℕ) → slice_index_or places f 0 ≤ length (slice_index_or parts f [])

-- a cut of the logs
pub record IsCut (logs : List (List (List (ℕ × ℤ)))) (cut : List (List ℕ)) : Type 0 where
  pub shape : length cut ≡ length logs
  pub each : (j : ℕ) → ArePlaces (slice_index_or logs j []) (slice_index_or cut j [])

-- the cut at the ends of all parts
abbrev pub full_cut : List (List (List (ℕ × ℤ))) → List (List ℕ)
full_cut logs = map (λ parts. map length parts) logs

-- the cut is one of the logs, and the set has k objects of a catalogue of n, each of whose totals plus
-- epsilon is at least that of every object outside
pub record IsValid (logs : List (List (List (ℕ × ℤ)))) (n k : ℕ) (epsilon : ℤ) (cut : List (List ℕ)) (set : List ℕ) : Type 0 where
  pub is_cut : IsCut logs cut
  pub size : length set ≡ k
  pub ascends : IsAscending set
  pub within : All (λ t. t ≤ n) set
  pub greatest : (t s : ℕ) → Contains set t → 1 ≤ s → s ≤ n → (Contains set s → ⊥) → total logs s cut ≤ℤ (total logs t cut +ℤ epsilon)

-- a number is an object of a catalogue of n
abbrev pub IsObject : ℕ → ℕ → Type 0
IsObject n o = IsOneOf n o

-- the sizes of the changes of one object, summed
abbrev pub weight_for : ℕ → List (ℕ × ℤ) → ℕ
weight_for o changes = sum_by (λ c. unsigned_abs c.1) (filter (λ c. c.0 == o) changes)

-- the sizes of its changes at one monitor
abbrev pub weight_of : List (List (ℕ × ℤ)) → ℕ → ℕ
weight_of parts o = sum_by (weight_for o) parts

-- how many changes a monitor has
abbrev pub updates_of : List (List (ℕ × ℤ)) → ℕ
updates_of parts = sum_by length parts

-- the parts of one monitor are within the limits, over a catalogue of n
pub record AreParts (n : ℕ) (parts : List (List (ℕ × ℤ))) : Type 0 where
  pub some_feeder : 1 ≤ length parts
  pub feeders : length parts ≤ 8
  pub objects : All (λ part. All (λ c. IsObject n c.0) part) parts
  pub lengths : All (λ part. length part ≤ 1000000) parts
  pub weights : (o : ℕ) → weight_of parts o ≤ 2 ^ 100

-- the parts of each monitor, and how many objects there are
pub record LogSet : Type 0 where
  pub logs : List (List (List (ℕ × ℤ)))
  pub objects : ℕ

-- the places before the first change of each part
abbrev pub beginnings : LogSet → List (List ℕ)
beginnings all = map (λ parts. map (λ part. 0) parts) all.logs

-- the logs are within the limits of this system
pub record AreLogs (s : LogSet) : Type 0 where
  pub some_monitor : 1 ≤ length s.logs
  pub monitors : length s.logs ≤ 64
  pub each : All (AreParts s.objects) s.logs

-- logs in one place: within the limits, and with at most 4,000,000 changes together
pub record AreGathered (s : LogSet) : Type 0 where
  pub limits : AreLogs s
  pub updates : sum_by updates_of s.logs ≤ 4000000

-- a number is a monitor of the logs
abbrev pub IsMonitor : LogSet → ℕ → Type 0
IsMonitor s mon = (1 ≤ mon) × (mon ≤ length s.logs)

-- a number is a feeder of a monitor of the logs
abbrev pub IsFeeder : LogSet → ℕ → ℕ → Type 0
IsFeeder s mon f = (1 ≤ f) × (f ≤ length (parts_of s.logs mon))

-- the part of a feeder
abbrev pub part_of : LogSet → ℕ → ℕ → List (ℕ × ℤ)
part_of s mon f = slice_index_or (parts_of s.logs mon) (f - 1) []
