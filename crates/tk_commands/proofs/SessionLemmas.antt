-- An order of sessions whose lines are tested one after the other, and how it is read.
use Rattle.std.proofs.Common.{◌≡◌, ℕ, suc, zero, ◌+◌, ◌≤◌, List, [], ◌∷◌, length, drop, Option, Some, None, Ok, Err, add-one, sym, ap, ◌∙◌, arith}
use Rattle.std.specs.List.{slice_get}
use Rattle.std.proofs.Math.ListN.{drop_of_length-le}
use Rattle.std.proofs.lemmas.List.{length-map}
use Rattle.tk_base.specs.Settings.{Setup}
use Rattle.tk_input.specs.Logs.{LogSet}
use Rattle.tk_input.specs.Records.{and_then, through}
use Rattle.tk_input.proofs.ThroughLemmas.{through-fault, through-none, through-some}
use Rattle.tk_session.specs.Order.{lines_of, numbers_of}
use Rattle.tk_session.specs.declared.session_line.SessionLine.{SessionLine}
use Rattle.tk_load.specs.Faults.Fault.{Bad}
use Rattle.tk_load.specs.Input.{bad_line}
use Rattle.tk_load.specs.Reads.{FileReads, Reads, ReadsOrder, Says, Tells}
use Rattle.tk_commands.specs.SessionInput.{line_kind, line_tested, lines_tested, session_order_from, session_order_in}
use Rattle.tk_load.specs.declared.status.InputKind.{InputKind}
use Rattle.tk_load.specs.declared.status.Status.{Status}
use Rattle.tk_load.proofs.FaultLemmas.{tells_of, tells_on}

-- the order of an order file of sessions
abbrev Numbered : Type 0
Numbered = List (ℕ × SessionLine)

-- the line at a place, and those behind it
line_at : (order : Numbered) (i number : ℕ) (line : SessionLine) → slice_get (lines_of order) i ≡ Some line → slice_get (numbers_of order) i ≡ Some number → drop i order ≡ (number, line) ∷ drop (suc i) order
line_at [] i number line at_line at_number = absurd (cc (at_line))
line_at (entry ∷ order) zero number line at_line at_number =
    let same : entry.1 ≡ line = cc (at_line) in
    let numbered : entry.0 ≡ number = cc (at_number) in
    ap (λ (n : ℕ). (n, entry.1) ∷ order) numbered ∙ ap (λ (l : SessionLine). (number, l) ∷ order) same
line_at (entry ∷ order) (suc i) number line at_line at_number = line_at order i number line at_line at_number

-- the lines that are left once those before pass
module _ (s : Setup) (name : List ℕ) (order : Numbered) (i : ℕ) (line : SessionLine) (number : ℕ) (at_line : slice_get (lines_of order) i ≡ Some line) (at_number : slice_get (numbers_of order) i ≡ Some number)
    (before : through (line_tested s name) tt (drop i order) ≡ lines_tested s name order) where
  pub one_passes : line_kind s line ≡ None → through (line_tested s name) tt (drop (i + 1) order) ≡ lines_tested s name order
  one_passes none =
      sym (through-some (line_tested s name) tt tt (number, line) (drop (i + 1) order) (drop i order)
      (line_at order i number line at_line at_number ∙ ap (λ (n : ℕ). (number, line) ∷ drop n order) (sym (add-one i)))
      (ap (bad_line name number) none))
      ∙ before

  pub one_refused : (kind : InputKind) (status : Status) → Some kind ≡ line_kind s line → Says status (Bad name number kind) → Tells status (lines_tested s name order)
  one_refused kind status some says =
      tells_of status (Bad name number kind) (lines_tested s name order) says
      (sym before ∙ through-fault (line_tested s name) tt (number, line) (drop (suc i) order) (drop i order) (Bad name number kind)
      (line_at order i number line at_line at_number) (ap (bad_line name number) (sym some)))

-- no line is left
pub all_pass : (s : Setup) (name : List ℕ) (order : Numbered) (i : ℕ) → length (lines_of order) ≤ i → through (line_tested s name) tt (drop i order) ≡ lines_tested s name order → lines_tested s name order ≡ Ok tt
all_pass s name order i ends before =
    let all = length-map order (λ (line : ℕ × SessionLine). line.1) in
    sym before ∙ through-none (line_tested s name) tt (drop i order) (drop_of_length-le order (omega (arith, all, ends)))

-- the order of the words, where they name a file of one
module _ (s : Setup) (logs : LogSet) (reads : FileReads) (named : Option (List ℕ)) (name : List ℕ) (is : named ≡ Some name) where
  pub order_found : (order : Numbered) → Reads reads name (λ (o : Numbered). o) (session_order_from s logs) (Ok order) → ReadsOrder reads named (session_order_in s logs) (Ok (Some order))
  order_found order given = record {
    file = Some (record { name = name; content = given.content });
    is_of = sym is;
    read = given.read;
    meets = ap (and_then (λ (o : Numbered). Ok (Some o))) given.meets;
  }

  pub order_lost : (status : Status) → Reads reads name (λ (o : Numbered). o) (session_order_from s logs) (Err status) → ReadsOrder reads named (session_order_in s logs) (Err status)
  order_lost status given = record {
    file = Some (record { name = name; content = given.content });
    is_of = sym is;
    read = given.read;
    meets = tells_on status (session_order_from s logs (record { name = name; content = given.content })) (λ (o : Numbered). Ok (Some o)) given.meets;
  }
