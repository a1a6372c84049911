-- A stream whose records are told as they come, and where at each end of a tick is told what is taken back there.
use Rattle.std.specs.Prelude.{ℕ, ◌-◌, ℤ, List, [], ◌∷◌, ◌++◌, flat_map, fold}
use Rattle.std.specs.List.{range_with_len}
use Rattle.tk_window.specs.Window.{changes_at}
use Rattle.tk_recent.specs.Kept.{Kept, fresh, noted, opposite, sums_of, ticked}

-- what is kept, and what was told
pub record Run : Type 0 where
  pub kept : Kept
  pub told : List (ℕ × ℤ)

-- a record comes: it is noted and told
abbrev pub given : Run → ℕ × ℤ → Run
given r c = record { kept = noted r.kept c; told = r.told ++ c ∷ [] }

-- a tick ends: what is taken back is told, one by one, until nothing is left of it
abbrev pub told_back : Run → Run
told_back r = record { kept = record (ticked r.kept) { back = [] }; told = r.told ++ (ticked r.kept).back }

-- a whole tick: its records, and its end
abbrev pub tick_given : Run → List (ℕ × ℤ) → Run
tick_given r changes = told_back (fold given r changes)

-- all of some ticks, from the start of a stream
unfoldable pub run : ℕ → ℕ → List (List (ℕ × ℤ)) → Run
run n width ticks = fold tick_given (record { kept = fresh n width; told = [] }) ticks

-- what is told of tick t: its records as they came, and then, one change an object, what takes back the tick that leaves the
-- window. `step_to` of tk_window takes back first, and one by one
abbrev pub told_in : ℕ → ℕ → List (List (ℕ × ℤ)) → ℕ → List (ℕ × ℤ)
told_in n width ticks t = changes_at ticks t ++ opposite (sums_of n (changes_at ticks (t - width)))

-- what is told up to the end of tick t
unfoldable pub told_to : ℕ → ℕ → List (List (ℕ × ℤ)) → ℕ → List (ℕ × ℤ)
told_to n width ticks t = flat_map (told_in n width ticks) (range_with_len 1 t)
