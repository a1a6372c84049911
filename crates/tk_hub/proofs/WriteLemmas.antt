-- The lines that a turn writes.
use Rattle.std.proofs.Common.{◌≡◌, ◌≤◌, ◌-◌, ℕ, List, [], ◌++◌, take, drop, Option, Some, None, refl, sym, ap, ◌∙◌, arith, append-nil, All}
use Rattle.std.specs.List.{concat}
use Rattle.tk_input.specs.Sink.{Grows}
use Rattle.tk_journal.specs.Entries.{IsEntryOf}
use Rattle.tk_journal.specs.declared.noted.Noted.{Noted}
use Rattle.tk_journal.specs.declared.noted.Noted.TheVariants as n
use Rattle.tk_ledger.specs.Text.{lines_of}
use Rattle.tk_hub.specs.Lines.{AreNamed, text_between, written_in}
use Rattle.tk_hub.specs.Writing.{WritesLines, turn_faults}
use Rattle.tk_hub.specs.declared.course.HubTurn.{HubTurn}
use Rattle.tk_hub.specs.declared.course.HubTurn.TheVariants as t
use Rattle.tk_hub.specs.declared.lines.Lines.{Lines}

nothing_grows : (x : Option (List ℕ)) (bytes : List ℕ) → bytes ≡ [] → Grows x x bytes
nothing_grows None bytes none = refl
nothing_grows (Some written) bytes none = ap Some (sym (ap (λ xs. written ++ xs) none ∙ append-nil written))

empty_between : (names : List (List ℕ)) (journal : List Noted) (from : ℕ) → text_between names journal from from ≡ []
empty_between names journal from =
    let none : from - from ≡ 0 = omega arith in
    ap concat (ap (λ k. take k (drop from (lines_of names journal))) none)

-- no line is written where no entry is passed
pub writes_nothing : (names : List (List ℕ)) (journal : List Noted) (lines : Lines) (x : Option (List ℕ)) → WritesLines names journal lines lines x x
writes_nothing names journal lines x = nothing_grows x (text_between names journal (written_in journal lines) (written_in journal lines)) (empty_between names journal (written_in journal lines))

named : (monitors objects names : ℕ) (e : Noted) → objects ≤ names → IsEntryOf monitors objects e → AreNamed names e
named monitors objects names (n.Got from frame) few is = tt
named monitors objects names (n.Sent to frame) few is = tt
named monitors objects names (n.Published publication) few is = λ k d within. let least = is k d within in omega (arith, few, least)
named monitors objects names (n.Tuned k epsilon) few is = tt

-- the members that are published have names
pub all_named : (monitors objects names : ℕ) (journal : List Noted) → objects ≤ names → All (IsEntryOf monitors objects) journal → All (AreNamed names) journal
all_named monitors objects names journal few all = λ k d within. named monitors objects names _ few (all k d within)

-- a turn that did not fail to write leaves the count of faults
pub no_fault : (turn : HubTurn) (faults : ℕ) → (turn ≡ t.WriteFailed → ⊥) → faults ≡ turn_faults turn faults
no_fault t.Quiet faults other = refl
no_fault t.More faults other = refl
no_fault t.Finished faults other = refl
no_fault t.Failed faults other = refl
no_fault (t.Refused mon why) faults other = refl
no_fault (t.Bad mon fault) faults other = refl
no_fault t.WriteFailed faults other = absurd (other refl)
no_fault t.NoMemory faults other = refl
