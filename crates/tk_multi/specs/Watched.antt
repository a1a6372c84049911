-- What a query counts beside what the common logs count, so that a set that it publishes holds over fronts of these.
use Rattle.std.specs.Prelude.{◌≡◌, ℕ, ◌≤◌, ℤ, ◌+ℤ◌, ◌≤ℤ◌, List, length, map, take, Option, Some, Contains}
use Rattle.std.specs.List.{zip}
use Rattle.tk_input.specs.Catalog.{AreDifferent}
use Rattle.tk_input.specs.Logs.{AreLogs, IsCut, IsValid, LogSet, total}
use Rattle.tk_multi.specs.Projection.{anew, logs_for, watch_of, watched_in}

-- how many of the changes in front of a place of a part are watched: the query's own place there
abbrev pub watched_place : List (Option ℕ) → List (ℕ × ℤ) → ℕ → ℕ
watched_place watch part place = length (watched_in watch (take place part))

-- its own places at places of a monitor's parts
abbrev pub watched_places : List (Option ℕ) → List (List (ℕ × ℤ)) → List ℕ → List ℕ
watched_places watch parts places = map (λ p. watched_place watch p.0 p.1) (zip parts places)

-- its own cut at a cut of the common logs
abbrev pub watched_cut : List (Option ℕ) → List (List (List (ℕ × ℤ))) → List (List ℕ) → List (List ℕ)
watched_cut watch logs cut = map (λ p. watched_places watch p.0 p.1) (zip logs cut)

-- at each cut of the common logs the query of a prefix counts of an object that it watches, under the number that it has
-- anew, what these logs count of it
abbrev pub QueryCountsWhatTheLogsCount : Type 0
QueryCountsWhatTheLogsCount =
    (prefix : List ℕ) (names : List (List ℕ)) (all : LogSet) (cut : List (List ℕ)) (o n : ℕ)
    → AreDifferent names → AreLogs all → 1 ≤ o → anew (watch_of prefix names) o ≡ Some n
    → total (logs_for prefix names all).logs n (watched_cut (watch_of prefix names) all.logs cut) ≡ total all.logs o cut

-- a cut of the query's is its own cut at one of the common logs, at which each watched object of a set has a total that,
-- with epsilon, is at least that of each watched one outside
pub record HoldsOverTheLogs (watch : List (Option ℕ)) (all : LogSet) (epsilon : ℤ) (seen : List (List ℕ)) (set : List ℕ) : Type 0 where
  pub cut : List (List ℕ)
  pub is_cut : IsCut all.logs cut
  pub seen_is : watched_cut watch all.logs cut ≡ seen
  pub greatest : (a b t s : ℕ) → 1 ≤ a → 1 ≤ b → anew watch a ≡ Some t → anew watch b ≡ Some s
      → Contains set t → (Contains set s → ⊥) → total all.logs b cut ≤ℤ (total all.logs a cut +ℤ epsilon)

-- so a set that is valid over the logs of a query holds over fronts of the common ones
abbrev pub QuerysSetHoldsOverTheLogs : Type 0
QuerysSetHoldsOverTheLogs =
    (prefix : List ℕ) (names : List (List ℕ)) (all : LogSet) (k : ℕ) (epsilon : ℤ) (seen : List (List ℕ)) (set : List ℕ)
    → AreDifferent names → AreLogs all
    → IsValid (logs_for prefix names all).logs (logs_for prefix names all).objects k epsilon seen set
    → HoldsOverTheLogs (watch_of prefix names) all epsilon seen set
