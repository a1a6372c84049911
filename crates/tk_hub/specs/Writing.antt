-- What a turn writes of the lines that a journal publishes.
use Rattle.std.specs.Prelude.{◌≡◌, ◌≤◌, ℕ, List, length, Option}
use Rattle.std.specs.List.{concat}
use Rattle.tk_base.specs.History.{IsFront}
use Rattle.tk_input.specs.Files.{one_more}
use Rattle.tk_input.specs.Sink.{Grows}
use Rattle.tk_journal.specs.declared.noted.Noted.{Noted}
use Rattle.tk_ledger.specs.Text.{lines_of}
use Rattle.tk_hub.specs.Lines.{IsAt, IsCutShort, text_between, text_from, text_written, written_in}
use Rattle.tk_hub.specs.declared.course.HubTurn.{HubTurn}
use Rattle.tk_hub.specs.declared.course.HubTurn.TheVariants as t
use Rattle.tk_hub.specs.declared.lines.Lines.{Lines}

-- the lines of the publications that were passed since
abbrev pub WritesLines : List (List ℕ) → List Noted → Lines → Lines → Option (List ℕ) → Option (List ℕ) → Type 0
WritesLines names journal from to old new = Grows old new (text_between names journal (written_in journal from) (written_in journal to))

-- the same, and a front of the next line
abbrev pub CutsLine : List (List ℕ) → List Noted → Lines → Lines → Option (List ℕ) → Option (List ℕ) → Type 0
CutsLine names journal from to old new =
    IsCutShort (text_between names journal (written_in journal from) (written_in journal to)) (text_from names journal (written_in journal to)) old new

-- what is written of a journal stays so as it grows
abbrev pub TextStays : List (List ℕ) → List Noted → List Noted → Lines → Type 0
TextStays names old new lines = IsFront old new → IsAt old lines → text_written names new lines ≡ text_written names old lines

-- behind what was written of a journal's first entries, what one who goes on writes makes up what is written of more
abbrev pub TextAddsUp : List (List ℕ) → List Noted → Lines → Lines → Type 0
TextAddsUp names journal from to =
    (a b c : Option (List ℕ)) → from.passed ≤ to.passed → Grows a b (text_written names journal from) → WritesLines names journal from to b c → Grows a c (text_written names journal to)

-- where all entries are passed, the lines of all publications are written
abbrev pub TextIsWhole : List (List ℕ) → List Noted → Lines → Type 0
TextIsWhole names journal lines = lines.passed ≡ length journal → text_written names journal lines ≡ concat (lines_of names journal)

-- where a turn did not fail to write, the lines of the publications that were passed since
abbrev pub WritesUnless : HubTurn → List (List ℕ) → List Noted → Lines → Lines → Option (List ℕ) → Option (List ℕ) → Type 0
WritesUnless turn names journal from to old new = (turn ≡ t.WriteFailed → ⊥) → WritesLines names journal from to old new

-- where it did, these lines and a front of the next
abbrev pub CutsWhere : HubTurn → List (List ℕ) → List Noted → Lines → Lines → Option (List ℕ) → Option (List ℕ) → Type 0
CutsWhere turn names journal from to old new = turn ≡ t.WriteFailed → CutsLine names journal from to old new

-- how many puts failed after a turn: one more exactly where it says so
abbrev pub turn_faults : HubTurn → ℕ → ℕ
turn_faults t.Quiet faults = faults
turn_faults t.More faults = faults
turn_faults t.Finished faults = faults
turn_faults t.Failed faults = faults
turn_faults (t.Refused mon why) faults = faults
turn_faults (t.Bad mon fault) faults = faults
turn_faults t.WriteFailed faults = one_more faults
turn_faults t.NoMemory faults = faults
