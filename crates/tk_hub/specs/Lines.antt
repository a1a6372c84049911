-- The printed lines of a journal, and how far they are written.
use Rattle.std.specs.Prelude.{◌≡◌, ℕ, ◌+◌, ◌≤◌, ◌++◌, ◌||◌, List, [], length, take, unwrap_or, slice_range, Option, Result, Ok, Err, ⊤}
use Rattle.std.specs.List.{All, concat, list_any}
use Rattle.tk_input.specs.Files.{one_more}
use Rattle.tk_input.specs.Sink.{Grows}
use Rattle.tk_journal.specs.Publishing.{publications}
use Rattle.tk_journal.specs.declared.noted.Noted.{Noted}
use Rattle.tk_journal.specs.declared.noted.Noted.TheVariants as n
use Rattle.tk_ledger.specs.Text.{is_tuned, line_at, lines_of}
use Rattle.tk_hub.specs.declared.lines.LineFault.{LineFault}
use Rattle.tk_hub.specs.declared.lines.LineFault.TheVariants as fault
use Rattle.tk_hub.specs.declared.lines.Lines.{Lines}

-- the members that an entry publishes have names among so many
abbrev pub AreNamed : ℕ → Noted → Type 0
AreNamed names (n.Got from frame) = ⊤
AreNamed names (n.Sent to frame) = ⊤
AreNamed names (n.Published publication) = All (λ o. o ≤ names) publication.members
AreNamed names (n.Tuned k epsilon) = ⊤

-- ---- how far they are written

-- the entries that were passed are some of the first, and it is known whether one of them is a retune
pub record IsAt (journal : List Noted) (lines : Lines) : Type 0 where
  pub within : lines.passed ≤ length journal
  pub tuned : lines.tuned ≡ list_any is_tuned (take lines.passed journal)

-- the line of the next entry, and no text where it has none
abbrev pub line_of : List (List ℕ) → Lines → Noted → List ℕ
line_of names lines entry = unwrap_or (line_at names lines.tuned entry) []

-- one more entry was passed
abbrev pub passing : Noted → Lines → Lines
passing entry lines = record { passed = lines.passed + 1; tuned = lines.tuned || is_tuned entry }

-- how many publications were passed, and so how many lines were written
abbrev pub written_in : List Noted → Lines → ℕ
written_in journal lines = length (publications (take lines.passed journal))

-- the text of the lines from one number to another
abbrev pub text_between : List (List ℕ) → List Noted → ℕ → ℕ → List ℕ
text_between names journal from to = concat (slice_range (lines_of names journal) from to)

-- the text of the lines that are written so far
abbrev pub text_written : List (List ℕ) → List Noted → Lines → List ℕ
text_written names journal lines = text_between names journal 0 (written_in journal lines)

-- the text of the lines from a number on
abbrev pub text_from : List (List ℕ) → List Noted → ℕ → List ℕ
text_from names journal from = text_between names journal from (length (publications journal))

-- what is done was written, and then some front of what was due behind it
pub record IsCutShort (done due : List ℕ) (old new : Option (List ℕ)) : Type 0 where
  pub front : List ℕ
  pub back : List ℕ
  pub parts : due ≡ front ++ back
  pub grown : Grows old new (done ++ front)

-- how many puts failed after a write: one more exactly where it says so
abbrev pub line_faults : {A : Type 0} → Result A LineFault → ℕ → ℕ
line_faults (Ok done) faults = faults
line_faults (Err fault.WriteFailed) faults = one_more faults
line_faults (Err fault.NoMemory) faults = faults
