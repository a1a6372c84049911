-- How much of the lines of a journal was written, turn by turn.
use Rattle.std.proofs.Common.{◌≡◌, ◌≤◌, ◌-◌, ℕ, List, [], ◌++◌, length, take, Option, sym, ap, subst, ◌∙◌, arith}
use Rattle.std.specs.List.{concat}
use Rattle.std.proofs.lemmas.List.{take-take, take_rest}
use Rattle.tk_input.specs.Sink.{Grows, GrowsByFront}
use Rattle.tk_journal.specs.Publishing.{publications}
use Rattle.tk_journal.specs.declared.noted.Noted.{Noted}
use Rattle.tk_ledger.specs.Text.{lines_of}
use Rattle.tk_hub.specs.Lines.{text_between, text_from, text_written, written_in}
use Rattle.tk_hub.specs.Writing.{CutsLine}
use Rattle.tk_hub.specs.declared.lines.Lines.{Lines}
use Rattle.tk_hub.proofs.LinesLemmas.{cut_is_front, length-lines_of, lines_within, text_none, text_split}
use Rattle.tk_ledger.proofs.SinkLemmas.{front_more, front_of}

module _ (names : List (List ℕ)) (journal : List Noted) where
  -- all lines are those from the first on
  from_first : text_from names journal 0 ≡ concat (lines_of names journal)
  from_first =
      ap concat (ap (λ k. take (k - 0) (lines_of names journal)) (sym (length-lines_of names journal)) ∙ take_rest (lines_of names journal) 0)

  -- they are those that are written, and those that are due
  pub all_lines : (lines : Lines) → concat (lines_of names journal) ≡ text_written names journal lines ++ text_from names journal (written_in journal lines)
  all_lines lines = sym from_first ∙ text_split names journal 0 (written_in journal lines) (omega arith) (lines_within journal lines.passed)

  -- no line is due of a journal that publishes nothing
  pub no_lines : publications journal ≡ [] → concat (lines_of names journal) ≡ []
  no_lines none = sym from_first ∙ ap (λ k. text_between names journal 0 (length k)) none ∙ text_none names journal 0

  -- the places of two lines of which one stands before the other
  in_order : (from to : Lines) → from.passed ≤ to.passed → written_in journal from ≤ written_in journal to
  in_order from to below =
      let again = take-take from.passed to.passed journal below in
      let within = lines_within (take to.passed journal) from.passed in
      omega (arith, ap (λ xs. length (publications xs)) again, within)

  -- a turn that was cut short in writing leaves a front of all lines
  pub cut_front : (from to : Lines) (a b c : Option (List ℕ)) → from.passed ≤ to.passed → Grows a b (text_written names journal from) → CutsLine names journal from to b c
      → GrowsByFront a c (concat (lines_of names journal))
  cut_front from to a b c below first cut =
      let at = written_in journal from in
      let rest = text_split names journal at (written_in journal to) (in_order from to below) (lines_within journal to.passed) in
      let more : GrowsByFront b c (text_from names journal at) = subst (GrowsByFront b c) (sym rest) (cut_is_front _ _ b c cut) in
      subst (GrowsByFront a c) (sym (all_lines from)) (front_more a b c (text_written names journal from) (text_from names journal at) first more)

  -- what is written is a front of all lines
  pub written_front : (lines : Lines) (a b : Option (List ℕ)) → Grows a b (text_written names journal lines) → GrowsByFront a b (concat (lines_of names journal))
  written_front lines a b grown = subst (GrowsByFront a b) (sym (all_lines lines)) (front_of a b _ _ grown)
