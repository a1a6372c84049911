-- The ticks of a log: a record of the single field `tick` ends one, and every other record is a change.
use Rattle.std.specs.Prelude.{ℕ, ◌+◌, ◌^◌, ◌<◌, ◌≤◌, ℤ, unsigned_abs, Bool, false, bytes_eq, codes, nat_le, if◌then◌else◌, List, [], ◌∷◌, ◌++◌, length, sum_by, All, Result, Ok, Err}
use Rattle.tk_input.specs.Log.{next_change}
use Rattle.tk_input.specs.Logs.{IsObject}
use Rattle.tk_input.specs.Records.{and_then, records_in, through}
use Rattle.tk_input.specs.declared.part.PartFault.{PartFault}
use Rattle.tk_input.specs.declared.part.PartFault.TheVariants.{TooMany}

-- what a record of a log is: the mark that ends a tick, or a change
pub data Entry : Type 0 where
  Mark : Entry
  Made : ℕ × ℤ → Entry

-- whether a record is the single field `tick`
abbrev pub is_mark : List (List ℕ) → Bool
is_mark [] = false
is_mark (field ∷ []) = bytes_eq field (codes "tick")
is_mark (field ∷ more ∷ rest) = false

-- the entry of a record that is a change, or its fault
abbrev pub made : Result (ℕ × ℤ) PartFault → Result Entry PartFault
made (Ok change) = Ok (Made change)
made (Err e) = Err e

-- the entry of the record after so many, or its fault; marks are counted with the changes
abbrev pub next_entry : List (List ℕ) → ℕ → List (List ℕ) → Result Entry PartFault
next_entry names before fields =
    if nat_le 1000000 before then Err TooMany
    else (if is_mark fields then Ok Mark else made (next_change names before fields))

-- the entries before with that of the next record, or its fault
abbrev pub entry_added : List (List ℕ) → List Entry → List (List ℕ) → Result (List Entry) PartFault
entry_added names before fields = and_then (λ entry. Ok (before ++ entry ∷ [])) (next_entry names (length before) fields)

-- the entries of a log file over these names, or its first fault
abbrev pub entries_of : List (List ℕ) → List ℕ → Result (List Entry) PartFault
entries_of names bytes = through (entry_added names) [] (records_in bytes)

-- ticks with one more change in front of the first of them
abbrev pub in_first : ℕ × ℤ → List (List (ℕ × ℤ)) → List (List (ℕ × ℤ))
in_first change [] = (change ∷ []) ∷ []
in_first change (tick ∷ rest) = (change ∷ tick) ∷ rest

-- the changes up to each mark, and those after the last one
abbrev pub ticks_of : List Entry → List (List (ℕ × ℤ))
ticks_of [] = [] ∷ []
ticks_of (Mark ∷ rest) = [] ∷ ticks_of rest
ticks_of (Made change ∷ rest) = in_first change (ticks_of rest)

-- the ticks of a log file over these names, or its first fault
abbrev pub ticked_of : List (List ℕ) → List ℕ → Result (List (List (ℕ × ℤ))) PartFault
ticked_of names bytes = and_then (λ entries. Ok (ticks_of entries)) (entries_of names bytes)

-- changes of a catalogue of n objects
abbrev pub AreOver : ℕ → List (ℕ × ℤ) → Type 0
AreOver n changes = All (λ c. IsObject n c.0) changes

-- ticks as a log has them: one more than marks, 1,000,000 marks and changes at most, each of at most 38 digits
pub record AreTicks (ticks : List (List (ℕ × ℤ))) : Type 0 where
  pub some_tick : 1 ≤ length ticks
  pub records : sum_by length ticks + length ticks ≤ 1000001
  pub sizes : All (λ tick. All (λ c. unsigned_abs c.1 < 2 ^ 127) tick) ticks

-- a number is a tick of the log
abbrev pub IsTick : List (List (ℕ × ℤ)) → ℕ → Type 0
IsTick ticks t = (1 ≤ t) × (t ≤ length ticks)
