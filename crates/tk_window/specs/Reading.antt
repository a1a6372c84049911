-- The ticks of a log while it is read; no public clause cites this file.
use Rattle.std.specs.Prelude.{ℕ, ◌^◌, ◌<◌, ℤ, unsigned_abs, List, [], ◌∷◌, ◌++◌, map, All, Option, Some, None}
use Rattle.tk_input.specs.Logs.{IsObject}
use Rattle.tk_input.specs.Changes.{pair_of}
use Rattle.tk_input.specs.declared.change.Change.{Change}
use Rattle.tk_window.specs.Ticks.{Entry}
use Rattle.tk_window.specs.Ticks.Entry.{Made, Mark}

-- a record as it was read
abbrev pub entry_of : Option Change → Entry
entry_of None = Mark
entry_of (Some change) = Made (pair_of change)

-- the ticks that were ended, and the changes behind the last mark
pub record Reading : Type 0 where
  pub closed : List (List (ℕ × ℤ))
  pub last : List (ℕ × ℤ)

-- what was read, of these ticks and these changes
abbrev pub read_so_far : List (List (ℕ × ℤ)) → List (ℕ × ℤ) → Reading
read_so_far closed last = record { closed = closed; last = last }

-- one entry more: a mark ends the tick, a change joins it
abbrev pub grown : Reading → Entry → Reading
grown r Mark = record { closed = r.closed ++ r.last ∷ []; last = [] }
grown r (Made change) = record { closed = r.closed; last = r.last ++ change ∷ [] }

-- the entries that were read
abbrev pub entries_in : List (List (ℕ × ℤ)) → List (ℕ × ℤ) → List Entry
entries_in [] last = map Made last
entries_in (tick ∷ rest) last = map Made tick ++ Mark ∷ entries_in rest last

-- a change of one of n objects, of at most 38 digits
abbrev pub IsChange : ℕ → ℕ × ℤ → Type 0
IsChange n c = IsObject n c.0 × (unsigned_abs c.1 < 2 ^ 127)

-- each change that was read is one
pub record AreRead (n : ℕ) (r : Reading) : Type 0 where
  pub closed : All (λ tick. All (IsChange n) tick) r.closed
  pub last : All (IsChange n) r.last
