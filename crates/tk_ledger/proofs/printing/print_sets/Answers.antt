use Rattle.std.proofs.Common.{List, subst}
use Rattle.std.specs.Prelude.{OnErr, OnOk}
use Rattle.std.specs.List.{concat}
use Rattle.tk_input.specs.Sink.{Grows, GrowsByFront}
use Rattle.tk_journal.specs.declared.noted.Noted.{Noted}
use Rattle.tk_ledger.specs.Text.{lines_of}
use Rattle.tk_ledger.proofs.LineLemmas.{named_at}
use Rattle.tk_ledger.proofs.printing.print_sets.Goals as goal

pub print_publications-requires : goal.print_publications-requires
print_publications-requires g c = named_at c.args.story.now.story c.args.names.now c.journal.result.now c.journal.ensures.legal c.requires.names c.journal.ensures.value

pub returns-clause-ok : goal.returns-clause-ok
unfolding lines_of
returns-clause-ok g c =
    let w = g.O.Sink.written in
    subst (λ (j : List Noted). OnOk c.print_publications.result (Grows (w c.args.out.now) (w c.print_publications.new.out) (concat (lines_of c.args.names.now j)))) c.journal.ensures.value c.print_publications.ensures.ok

pub returns-clause-err : goal.returns-clause-err
unfolding lines_of
returns-clause-err g c =
    let w = g.O.Sink.written in
    subst (λ (j : List Noted). OnErr c.print_publications.result (GrowsByFront (w c.args.out.now) (w c.print_publications.new.out) (concat (lines_of c.args.names.now j)))) c.journal.ensures.value c.print_publications.ensures.err
