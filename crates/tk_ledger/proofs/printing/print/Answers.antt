use Rattle.std.proofs.Common.{subst}
use Rattle.std.specs.Prelude.{OnErr, OnOk}
use Rattle.tk_base.proofs.OptionLemmas.{on_err}
use Rattle.tk_input.specs.Sink.{Grows, GrowsByFront}
use Rattle.tk_ledger.specs.Ledger.{ledger_of}
use Rattle.tk_ledger.specs.Text.{ledger_text, sets_text, text_of}
use Rattle.tk_ledger.specs.declared.ledger.Ledger.{Ledger}
use Rattle.tk_ledger.proofs.SinkLemmas.{front_longer, front_of, then_err, then_ok}
use Rattle.tk_ledger.proofs.printing.print.Goals as goal

pub returns-in_err-print_sets-clause-err : goal.returns-in_err-print_sets-clause-err
unfolding text_of
returns-in_err-print_sets-clause-err g c =
    let w = g.O.Sink.written in
    let s = c.args.story.now.story in
    on_err _ _ (front_longer (w c.args.out.now) (w c.print_sets.new.out) (sets_text c.args.names.now s) (ledger_text (ledger_of s.settings s.journal)) c.in_err-print_sets.ensures.err)

pub returns-in_err-of-clause-err : goal.returns-in_err-of-clause-err
unfolding text_of
returns-in_err-of-clause-err g c =
    let w = g.O.Sink.written in
    let s = c.args.story.now.story in
    on_err _ _ (front_of (w c.args.out.now) (w c.print_sets.new.out) (sets_text c.args.names.now s) (ledger_text (ledger_of s.settings s.journal)) c.in_ok-print_sets.ensures.ok)

pub returns-clause-ok : goal.returns-clause-ok
unfolding text_of
returns-clause-ok g c =
    let w = g.O.Sink.written in
    let s = c.args.story.now.story in
    let ledger = subst (λ (l : Ledger). OnOk c.print_ledger.result (Grows (w c.print_sets.new.out) (w c.print_ledger.new.out) (ledger_text l))) c.in_ok-of.ensures c.print_ledger.ensures.ok in
    then_ok c.print_ledger.result (w c.args.out.now) (w c.print_sets.new.out) (w c.print_ledger.new.out) (sets_text c.args.names.now s) (ledger_text (ledger_of s.settings s.journal)) c.in_ok-print_sets.ensures.ok ledger

pub returns-clause-err : goal.returns-clause-err
unfolding text_of
returns-clause-err g c =
    let w = g.O.Sink.written in
    let s = c.args.story.now.story in
    let ledger = subst (λ (l : Ledger). OnErr c.print_ledger.result (GrowsByFront (w c.print_sets.new.out) (w c.print_ledger.new.out) (ledger_text l))) c.in_ok-of.ensures c.print_ledger.ensures.err in
    then_err c.print_ledger.result (w c.args.out.now) (w c.print_sets.new.out) (w c.print_ledger.new.out) (sets_text c.args.names.now s) (ledger_text (ledger_of s.settings s.journal)) c.in_ok-print_sets.ensures.ok ledger
