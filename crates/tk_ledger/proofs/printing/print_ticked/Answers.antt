use Rattle.std.proofs.Common.{List, subst}
use Rattle.std.specs.Prelude.{OnErr, OnOk}
use Rattle.std.specs.List.{concat}
use Rattle.tk_base.proofs.OptionLemmas.{on_err}
use Rattle.tk_input.specs.Sink.{Grows, GrowsByFront}
use Rattle.tk_journal.specs.declared.noted.Noted.{Noted}
use Rattle.tk_ledger.specs.Ledger.{ledger_of}
use Rattle.tk_ledger.specs.Text.{ledger_text, lines_by, ticked_at, ticked_text_of}
use Rattle.tk_ledger.specs.declared.ledger.Ledger.{Ledger}
use Rattle.tk_ledger.proofs.LineLemmas.{named_at}
use Rattle.tk_ledger.proofs.SinkLemmas.{front_longer, front_of, then_err, then_ok}
use Rattle.tk_ledger.proofs.printing.print_ticked.Goals as goal

pub print_publications-requires : goal.print_publications-requires
print_publications-requires g c = named_at c.args.story.now.story c.args.names.now c.journal.result.now c.journal.ensures.legal c.requires.names c.journal.ensures.value

pub returns-in_err-print_publications-clause-err : goal.returns-in_err-print_publications-clause-err
unfolding ticked_text_of
returns-in_err-print_publications-clause-err g c =
    let w = g.O.Sink.written in
    let s = c.args.story.now.story in
    let names = c.args.names.now in
    let lines = lines_by (ticked_at c.args.ends.now names) in
    on_err _ _ (front_longer (w c.args.out.now) (w c.print_publications.new.out) (concat (lines s.journal)) (ledger_text (ledger_of s.settings s.journal))
    (subst (λ (j : List Noted). GrowsByFront (w c.args.out.now) (w c.print_publications.new.out) (concat (lines j))) c.journal.ensures.value c.in_err-print_publications.ensures.err))

pub returns-in_err-of-clause-err : goal.returns-in_err-of-clause-err
unfolding ticked_text_of
returns-in_err-of-clause-err g c =
    let w = g.O.Sink.written in
    let s = c.args.story.now.story in
    let names = c.args.names.now in
    let lines = lines_by (ticked_at c.args.ends.now names) in
    on_err _ _ (front_of (w c.args.out.now) (w c.print_publications.new.out) (concat (lines s.journal)) (ledger_text (ledger_of s.settings s.journal))
    (subst (λ (j : List Noted). Grows (w c.args.out.now) (w c.print_publications.new.out) (concat (lines j))) c.journal.ensures.value c.in_ok-print_publications.ensures.ok))

pub returns-clause-ok : goal.returns-clause-ok
unfolding ticked_text_of
returns-clause-ok g c =
    let w = g.O.Sink.written in
    let s = c.args.story.now.story in
    let names = c.args.names.now in
    let lines = lines_by (ticked_at c.args.ends.now names) in
    let first = subst (λ (j : List Noted). Grows (w c.args.out.now) (w c.print_publications.new.out) (concat (lines j))) c.journal.ensures.value c.in_ok-print_publications.ensures.ok in
    let ledger = subst (λ (l : Ledger). OnOk c.print_ledger.result (Grows (w c.print_publications.new.out) (w c.print_ledger.new.out) (ledger_text l))) c.in_ok-of.ensures c.print_ledger.ensures.ok in
    then_ok c.print_ledger.result (w c.args.out.now) (w c.print_publications.new.out) (w c.print_ledger.new.out) (concat (lines s.journal)) (ledger_text (ledger_of s.settings s.journal)) first ledger

pub returns-clause-err : goal.returns-clause-err
unfolding ticked_text_of
returns-clause-err g c =
    let w = g.O.Sink.written in
    let s = c.args.story.now.story in
    let names = c.args.names.now in
    let lines = lines_by (ticked_at c.args.ends.now names) in
    let first = subst (λ (j : List Noted). Grows (w c.args.out.now) (w c.print_publications.new.out) (concat (lines j))) c.journal.ensures.value c.in_ok-print_publications.ensures.ok in
    let ledger = subst (λ (l : Ledger). OnErr c.print_ledger.result (GrowsByFront (w c.print_publications.new.out) (w c.print_ledger.new.out) (ledger_text l))) c.in_ok-of.ensures c.print_ledger.ensures.err in
    then_err c.print_ledger.result (w c.args.out.now) (w c.print_publications.new.out) (w c.print_ledger.new.out) (concat (lines s.journal)) (ledger_text (ledger_of s.settings s.journal)) first ledger
