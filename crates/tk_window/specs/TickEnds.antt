-- At which ticks the places of a cut stand.
use Rattle.std.specs.Prelude.{ℕ, max, ◌==◌, List, [], ◌∷◌, filter, fold, map, Option, Some, option_and_then, option_map}
use Rattle.std.specs.List.{range_with_len, zip}
use Rattle.tk_base.specs.declared.ids.Mon.{Mon}
use Rattle.tk_input.specs.Judged.{Assigned}
use Rattle.tk_window.specs.Window.{Expansion, tick_ending}

-- the logs of some monitors, expanded, in the order of the words
abbrev pub Sources : Type 0
Sources = List (Mon × Expansion)

-- their changes alone
abbrev pub parts_in : Sources → Assigned
parts_in logs = map (λ log. (log.0, log.1.part)) logs

-- the greatest monitor with a log
abbrev pub last_source : Sources → ℕ
last_source logs = fold (λ last log. max last log.0.0) 0 logs

-- where the ticks of each log of a monitor end, in the order of its feeders
abbrev pub ends_of : Sources → ℕ → List (List ℕ)
ends_of logs mon = map (λ log. log.1.ends) (filter (λ log. log.0.0 == mon) logs)

-- the same of each monitor
abbrev pub ends_by_monitor : Sources → List (List (List ℕ))
ends_by_monitor logs = map (ends_of logs) (range_with_len 1 (last_source logs))

-- all of some values, where each is there
abbrev pub all_of : {A : Type 0} → List (Option A) → Option (List A)
all_of [] = Some []
all_of (found ∷ rest) = option_and_then (λ x. option_map (λ xs. x ∷ xs) (all_of rest)) found

-- the ticks that end at the places of a monitor, where one does at each
abbrev pub ticks_in : List (List ℕ) → List ℕ → Option (List ℕ)
ticks_in ends places = all_of (map (λ p. tick_ending p.0 p.1) (zip ends places))

-- those that end at the places of a cut
abbrev pub ticks_at : List (List (List ℕ)) → List (List ℕ) → Option (List (List ℕ))
ticks_at ends cut = all_of (map (λ p. ticks_in p.0 p.1) (zip ends cut))
