use Rattle.std.proofs.Common.{◌≡◌, ℕ, List, [], ◌++◌, ◌∙◌, ap, append_assoc, subst, length}
use Rattle.std.specs.Prelude.{OnErr, OnOk, unwrap_or}
use Rattle.tk_base.specs.History.{last_of}
use Rattle.tk_base.proofs.OptionLemmas.{on_err}
use Rattle.tk_input.specs.Sink.{Grows, GrowsByFront}
use Rattle.tk_journal.specs.declared.noted.Noted.{Noted}
use Rattle.tk_ledger.specs.Ledger.{ledger_of}
use Rattle.tk_ledger.specs.Text.{lines_of, publications_text, summary_of, totals_text}
use Rattle.tk_ledger.specs.declared.ledger.Ledger.{Ledger}
use Rattle.tk_ledger.proofs.LineLemmas.{named_at}
use Rattle.tk_ledger.proofs.SinkLemmas.{front_longer, front_of, put_done, put_front, then_err, then_ok}
use Rattle.tk_ledger.proofs.printing.print_summary.Goals as goal

-- how many publications there are, and the line of the last
abbrev count_text : List (List ℕ) → List Noted → List ℕ
count_text names journal = publications_text (length (lines_of names journal))

abbrev last_text : List (List ℕ) → List Noted → List ℕ
last_text names journal = unwrap_or (last_of (lines_of names journal)) []

-- both, by what was read off the journal
both : (names : List (List ℕ)) (journal told : List Noted) (count : ℕ) (line : List ℕ) → told ≡ journal → count ≡ length (lines_of names told) → line ≡ last_text names told
    → publications_text count ++ line ≡ count_text names journal ++ last_text names journal
both names journal told count line same counted last =
    ap (λ (n : ℕ). publications_text n ++ line) (counted ∙ ap (λ (j : List Noted). length (lines_of names j)) same)
    ∙ ap (λ (l : List ℕ). count_text names journal ++ l) (last ∙ ap (last_text names) same)

pub last_line-requires : goal.last_line-requires
last_line-requires g c = named_at c.args.story.now.story c.args.names.now c.journal.result.now c.journal.ensures.legal c.requires.names c.journal.ensures.value

pub returns-in_err-print_last-clause-err : goal.returns-in_err-print_last-clause-err
unfolding summary_of
returns-in_err-print_last-clause-err g c =
    let w = g.O.Sink.written in
    let s = c.args.story.now.story in
    let names = c.args.names.now in
    let count = count_text names s.journal in
    let last = last_text names s.journal in
    let totals = totals_text (ledger_of s.settings s.journal) in
    let read = c.in_ok-last_line in
    let is = both names s.journal c.journal.result.now read.field-0.0 read.field-0.1.items c.journal.ensures.value read.ensures.count read.ensures.line in
    on_err _ _ (subst (λ (t : List ℕ). GrowsByFront (w c.args.out.now) (w c.print_last.new.out) t) (append_assoc count last totals)
    (front_longer (w c.args.out.now) (w c.print_last.new.out) (count ++ last) totals (put_front (w c.args.out.now) (w c.print_last.new.out) _ (count ++ last) is c.in_err-print_last.ensures.err)))

pub returns-in_err-of-clause-err : goal.returns-in_err-of-clause-err
unfolding summary_of
returns-in_err-of-clause-err g c =
    let w = g.O.Sink.written in
    let s = c.args.story.now.story in
    let names = c.args.names.now in
    let count = count_text names s.journal in
    let last = last_text names s.journal in
    let totals = totals_text (ledger_of s.settings s.journal) in
    let read = c.in_ok-last_line in
    let is = both names s.journal c.journal.result.now read.field-0.0 read.field-0.1.items c.journal.ensures.value read.ensures.count read.ensures.line in
    let first = put_done (w c.args.out.now) (w c.print_last.new.out) _ (count ++ last) is c.in_ok-print_last.ensures.ok in
    on_err _ _ (subst (λ (t : List ℕ). GrowsByFront (w c.args.out.now) (w c.print_last.new.out) t) (append_assoc count last totals)
    (front_of (w c.args.out.now) (w c.print_last.new.out) (count ++ last) totals first))

pub returns-clause-ok : goal.returns-clause-ok
unfolding summary_of
returns-clause-ok g c =
    let w = g.O.Sink.written in
    let s = c.args.story.now.story in
    let names = c.args.names.now in
    let count = count_text names s.journal in
    let last = last_text names s.journal in
    let totals = totals_text (ledger_of s.settings s.journal) in
    let read = c.in_ok-last_line in
    let is = both names s.journal c.journal.result.now read.field-0.0 read.field-0.1.items c.journal.ensures.value read.ensures.count read.ensures.line in
    let first = put_done (w c.args.out.now) (w c.print_last.new.out) _ (count ++ last) is c.in_ok-print_last.ensures.ok in
    let ledger = subst (λ (l : Ledger). OnOk c.print_totals.result (Grows (w c.print_last.new.out) (w c.print_totals.new.out) (totals_text l))) c.in_ok-of.ensures c.print_totals.ensures.ok in
    subst (λ (t : List ℕ). OnOk c.print_totals.result (Grows (w c.args.out.now) (w c.print_totals.new.out) t)) (append_assoc count last totals)
    (then_ok c.print_totals.result (w c.args.out.now) (w c.print_last.new.out) (w c.print_totals.new.out) (count ++ last) totals first ledger)

pub returns-clause-err : goal.returns-clause-err
unfolding summary_of
returns-clause-err g c =
    let w = g.O.Sink.written in
    let s = c.args.story.now.story in
    let names = c.args.names.now in
    let count = count_text names s.journal in
    let last = last_text names s.journal in
    let totals = totals_text (ledger_of s.settings s.journal) in
    let read = c.in_ok-last_line in
    let is = both names s.journal c.journal.result.now read.field-0.0 read.field-0.1.items c.journal.ensures.value read.ensures.count read.ensures.line in
    let first = put_done (w c.args.out.now) (w c.print_last.new.out) _ (count ++ last) is c.in_ok-print_last.ensures.ok in
    let ledger = subst (λ (l : Ledger). OnErr c.print_totals.result (GrowsByFront (w c.print_last.new.out) (w c.print_totals.new.out) (totals_text l))) c.in_ok-of.ensures c.print_totals.ensures.err in
    subst (λ (t : List ℕ). OnErr c.print_totals.result (GrowsByFront (w c.args.out.now) (w c.print_totals.new.out) t)) (append_assoc count last totals)
    (then_err c.print_totals.result (w c.args.out.now) (w c.print_last.new.out) (w c.print_totals.new.out) (count ++ last) totals first ledger)
