-- What one line is: read as a log of its own, unless it is empty or too long.
use Rattle.std.specs.Prelude.{◌≡◌, ◌≢◌, ℕ, ℤ, List, [], ◌∷◌, length, nat_lt, Bool, true, false, ◌&&◌, if◌then◌else◌, Option, Some, None, Result, Ok, Err}
use Rattle.tk_base.specs.declared.memory.NoMemory.{NoMemory}
use Rattle.tk_input.specs.Changes.{pair_of}
use Rattle.tk_input.specs.Log.{log_of}
use Rattle.tk_input.specs.Logs.{IsObject}
use Rattle.tk_input.specs.Records.{records_in}
use Rattle.tk_input.specs.declared.change.Change.{Change}
use Rattle.tk_input.specs.declared.part.PartFault.{PartFault}
use Rattle.tk_input.specs.declared.part.PartFault.TheVariants as p
use Rattle.tk_stream.specs.declared.item.Item.{Item}
use Rattle.tk_stream.specs.declared.item.Item.TheVariants as i
use Rattle.tk_stream.specs.declared.line.Judged.{Judged}
use Rattle.tk_stream.specs.declared.line.Judged.TheVariants as j
use Rattle.tk_stream.specs.declared.line_fault.LineFault.{LineFault}
use Rattle.tk_stream.specs.declared.line_fault.LineFault.TheVariants as l
use Rattle.tk_window.specs.Ticks.{Entry, is_mark}
use Rattle.tk_window.specs.Ticks.Entry.{Made, Mark}

-- what a fault of a log of one line says of the line
abbrev pub fault_of : PartFault → LineFault
fault_of p.TooMany = l.BadRow
fault_of (p.BadRow n) = l.BadRow
fault_of (p.UnknownName n) = l.UnknownName
fault_of (p.BadNumber n) = l.BadNumber
fault_of p.NoMemory = l.BadRow

-- the change of a log that has one
abbrev pub single : List (ℕ × ℤ) → Result (ℕ × ℤ) LineFault
single [] = Err l.BadRow
single (c ∷ []) = Ok c
single (c ∷ d ∷ rest) = Err l.BadRow

-- what the log that a line is says of it
abbrev pub meant_by : Result (List (ℕ × ℤ)) PartFault → Result (ℕ × ℤ) LineFault
meant_by (Ok changes) = single changes
meant_by (Err fault) = Err (fault_of fault)

-- what a line is, read as a log of its own
abbrev pub line_change : List (List ℕ) → List ℕ → Result (ℕ × ℤ) LineFault
line_change names line = meant_by (log_of names line)

-- whether some records are the mark that ends a tick, and no more
abbrev pub are_tick : List (List (List ℕ)) → Bool
are_tick [] = false
are_tick (fields ∷ []) = is_mark fields
are_tick (fields ∷ more ∷ rest) = false

-- a change as an entry, or the fault
abbrev pub made_of : Result (ℕ × ℤ) LineFault → Result Entry LineFault
made_of (Ok change) = Ok (Made change)
made_of (Err fault) = Err fault

-- what a line is, read as a log of its own, where ticks are known or not: without them a mark is a record as any other
abbrev pub line_entry : Bool → List (List ℕ) → List ℕ → Result Entry LineFault
line_entry ticks names line = if ticks && are_tick (records_in line) then Ok Mark else made_of (line_change names line)

-- what a line is: nothing where it is empty, too long with over 65,536 bytes, else what it is as a log
abbrev pub line_of : Bool → List (List ℕ) → List ℕ → Option (Result Entry LineFault)
line_of ticks names [] = None
line_of ticks names (b ∷ bytes) =
    if nat_lt 65536 (length (b ∷ bytes)) then Some (Err l.TooLong) else Some (line_entry ticks names (b ∷ bytes))

-- a change as a pair, or the fault
abbrev pub record_as : Result Change LineFault → Result (ℕ × ℤ) LineFault
record_as (Ok c) = Ok (pair_of c)
record_as (Err fault) = Err fault

-- what a reader gave, as an entry of a log in ticks
abbrev pub entry_of : Item → Entry
entry_of (i.Record c) = Made (pair_of c)
entry_of i.Tick = Mark

-- the entry, or the fault
abbrev pub entry_as : Result Item LineFault → Result Entry LineFault
entry_as (Ok item) = Ok (entry_of item)
entry_as (Err fault) = Err fault

-- what was found of a line, as the definitions have it
abbrev pub judged_as : Judged → Option (Result Entry LineFault)
judged_as j.Empty = None
judged_as (j.Found item) = Some (Ok (entry_of item))
judged_as (j.Bad fault) = Some (Err fault)

-- a record is of one of so many objects, and a tick comes only where ticks are known
abbrev pub IsItemOf : Bool → ℕ → Item → Type 0
IsItemOf ticks objects (i.Record c) = IsObject objects c.obj.0
IsItemOf ticks objects i.Tick = ticks ≡ true

-- so it is with what was found of a line
abbrev pub IsJudgedOf : Bool → ℕ → Judged → Type 0
IsJudgedOf ticks objects j.Empty = Unit {0}
IsJudgedOf ticks objects (j.Found item) = IsItemOf ticks objects item
IsJudgedOf ticks objects (j.Bad fault) = Unit {0}

-- what comes of a fault of a log: a fault of the line, but for want of memory
abbrev pub OfFault : Result LineFault NoMemory → PartFault → Type 0
OfFault (Ok fault) of = (of ≢ p.NoMemory) × (fault ≡ fault_of of)
OfFault (Err none) of = of ≡ p.NoMemory
