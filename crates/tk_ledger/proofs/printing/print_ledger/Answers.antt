use Rattle.tk_base.proofs.OptionLemmas.{on_err}
use Rattle.tk_ledger.specs.Text.{monitors_text, totals_text}
use Rattle.tk_ledger.proofs.SinkLemmas.{front_longer, then_err}
use Rattle.tk_ledger.proofs.printing.print_ledger.Goals as goal

pub returns-in_err-print_totals-clause-err : goal.returns-in_err-print_totals-clause-err
returns-in_err-print_totals-clause-err g c =
    let w = g.O.Sink.written in
    let l = c.args.ledger.now in
    on_err _ _ (front_longer (w c.args.out.now) (w c.print_totals.new.out) (totals_text l) (monitors_text l.per) c.in_err-print_totals.ensures.err)

pub returns-clause-err : goal.returns-clause-err
returns-clause-err g c =
    let w = g.O.Sink.written in
    let l = c.args.ledger.now in
    then_err c.print_monitors.result (w c.args.out.now) (w c.print_totals.new.out) (w c.print_monitors.new.out) (totals_text l) (monitors_text l.per)
    c.in_ok-print_totals.ensures.ok c.print_monitors.ensures.err
