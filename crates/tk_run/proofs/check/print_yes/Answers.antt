use Rattle.std.specs.Prelude.{codes}
use Rattle.tk_base.proofs.OptionLemmas.{on_err}
use Rattle.tk_ledger.specs.Text.{sets_text}
use Rattle.tk_ledger.proofs.SinkLemmas.{front_longer, front_more}
use Rattle.tk_run.proofs.check.print_yes.Goals as goal

pub returns-in_err-print_sets-clause-err : goal.returns-in_err-print_sets-clause-err
returns-in_err-print_sets-clause-err g c =
    let w = g.O.Sink.written in
    on_err _ _ (front_longer (w c.args.out.now) (w c.print_sets.new.out) (sets_text c.args.names.now c.args.story.now.story) (codes "yes\n") c.in_err-print_sets.ensures.err)

pub returns-in_err-put-clause-err : goal.returns-in_err-put-clause-err
returns-in_err-put-clause-err g c =
    let w = g.O.Sink.written in
    on_err _ _ (front_more (w c.args.out.now) (w c.print_sets.new.out) (w c.put.new.self) (sets_text c.args.names.now c.args.story.now.story) (codes "yes\n") c.in_ok-print_sets.ensures.ok c.in_err-put.ensures.err)
