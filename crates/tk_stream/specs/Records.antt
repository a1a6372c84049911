-- What a reader of records shows of its stream, and what a call does to that.
use Rattle.std.specs.Prelude.{◌≡◌, ℕ, Bool, true, false, List, Option, option_map, Result, Ok, Err}
use Rattle.std.specs.Str.Lines.{lines}
use Rattle.tk_input.specs.Changes.{pair_of}
use Rattle.tk_input.specs.declared.change.Change.{Change}
use Rattle.tk_stream.specs.First.{Found, first_of}
use Rattle.tk_stream.specs.Line.{entry_of}
use Rattle.tk_stream.specs.declared.item.Item.{Item}
use Rattle.tk_stream.specs.declared.line_fault.LineFault.{LineFault}
use Rattle.tk_stream.specs.declared.records.StreamFault.{StreamFault}
use Rattle.tk_stream.specs.declared.records.StreamFault.TheVariants as f
use Rattle.tk_input.specs.Files.{one_more}
use Rattle.tk_window.specs.Ticks.{Entry}
use Rattle.tk_window.specs.Ticks.Entry.{Made}

-- whether the source tells its bytes, the lines still to come where it does, the number of the last line, whether bad lines
-- are skipped and how many were, and how many reads failed
pub record Unread : Type 0 where
  pub tells : Bool
  pub lines : List (List ℕ)
  pub number : ℕ
  pub skips : Bool
  pub skipped : ℕ
  pub faults : ℕ

-- nothing was read of a source
abbrev pub unread_of : Bool → List ℕ → ℕ → Bool → Unread
unread_of tells content faults skips =
    record { tells = tells; lines = lines content; number = 0; skips = skips; skipped = 0; faults = faults }

-- the first record, tick or fault of what is unread, where ticks are known or not
abbrev pub first_in : Bool → List (List ℕ) → Unread → Found
first_in ticks names u = first_of ticks names u.skips u.number u.skipped u.lines

-- this was found, and the rest is unread
abbrev pub found_before : Result (Option Entry) LineFault → Unread → Found
found_before what u = record { what = what; number = u.number; skipped = u.skipped; left = u.lines }

-- what was read was the first to come, where ticks are known or not
abbrev pub FindsItem : Bool → List (List ℕ) → Option Item → Unread → Unread → Type 0
FindsItem ticks names came old new = old.tells ≡ true → first_in ticks names old ≡ found_before (Ok (option_map entry_of came)) new

-- the same of a record, where ticks are not known
abbrev pub Finds : List (List ℕ) → Option Change → Unread → Unread → Type 0
Finds names came old new = old.tells ≡ true → first_in false names old ≡ found_before (Ok (option_map (λ c. Made (pair_of c)) came)) new

-- a bad line was the first to come, and has this number; a failed read or want of memory changes nothing of what is first
abbrev pub FailsItem : Bool → List (List ℕ) → StreamFault → Unread → Unread → Type 0
FailsItem ticks names (f.Bad line fault) old new =
    (line ≡ new.number) × (old.tells ≡ true → first_in ticks names old ≡ found_before (Err fault) new)
FailsItem ticks names f.ReadFailed old new = old.tells ≡ true → first_in ticks names old ≡ first_in ticks names new
FailsItem ticks names f.NoMemory old new = old.tells ≡ true → first_in ticks names old ≡ first_in ticks names new

-- the same where ticks are not known
abbrev pub Fails : List (List ℕ) → StreamFault → Unread → Unread → Type 0
Fails names fault old new = FailsItem false names fault old new

-- a bad line ends a reading only where bad lines are not skipped
abbrev pub MayEnd : StreamFault → Bool → Type 0
MayEnd (f.Bad line fault) skips = skips ≡ false
MayEnd f.ReadFailed skips = Unit {0}
MayEnd f.NoMemory skips = Unit {0}

-- how many reads failed, behind a fault
abbrev pub faults_by : StreamFault → ℕ → ℕ
faults_by (f.Bad line fault) faults = faults
faults_by f.ReadFailed faults = one_more faults
faults_by f.NoMemory faults = faults

-- how many reads failed, after one more call
abbrev pub faults_after : {A : Type 0} → Result A StreamFault → ℕ → ℕ
faults_after (Ok came) faults = faults
faults_after (Err fault) faults = faults_by fault faults
