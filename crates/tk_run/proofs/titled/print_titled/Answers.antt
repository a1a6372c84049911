use Rattle.tk_base.proofs.OptionLemmas.{on_err}
use Rattle.tk_ledger.specs.Text.{text_of}
use Rattle.tk_ledger.proofs.SinkLemmas.{front_longer, then_err}
use Rattle.tk_run.proofs.titled.print_titled.Goals as goal

pub returns-in_err-put-clause-err : goal.returns-in_err-put-clause-err
returns-in_err-put-clause-err g c =
    let w = g.O.Sink.written in
    on_err _ _ (front_longer (w c.args.out.now) (w c.put.new.self) c.args.title.now (text_of c.args.names.now c.args.story.now.story) c.in_err-put.ensures.err)

pub returns-clause-err : goal.returns-clause-err
returns-clause-err g c =
    let w = g.O.Sink.written in
    then_err c.print.result (w c.args.out.now) (w c.put.new.self) (w c.print.new.out) c.args.title.now (text_of c.args.names.now c.args.story.now.story) c.in_ok-put.ensures.ok c.print.ensures.err
