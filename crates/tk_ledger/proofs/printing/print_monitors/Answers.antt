use Rattle.std.proofs.Common.{◌+◌, ◌∙◌, take, arith}
use Rattle.tk_base.proofs.OptionLemmas.{on_err}
use Rattle.tk_ledger.specs.Text.{monitor_text, monitors_text}
use Rattle.tk_ledger.proofs.LineLemmas.{monitors_more, monitors_split}
use Rattle.tk_ledger.proofs.SinkLemmas.{goes_on, stops_before, stops_within}
use Rattle.tk_ledger.proofs.printing.print_monitors.Goals as goal

pub returns-in_err-monitor_line-clause-err : goal.returns-in_err-monitor_line-clause-err
returns-in_err-monitor_line-clause-err g c =
    let w = g.O.Sink.written in
    let per = c.args.per.now in
    let split = monitors_split per c.loop-i.i in
    on_err _ _ (stops_before (w c.args.out.now) (w c.loop-i.out) (monitors_text (take c.loop-i.i per)) split.0 (monitors_text per) split.1 c.loop-i.invariant.written)

pub returns-in_err-put_line-clause-err : goal.returns-in_err-put_line-clause-err
returns-in_err-put_line-clause-err g c =
    let w = g.O.Sink.written in
    let per = c.args.per.now in
    let i = c.loop-i.i in
    let split = monitors_split per (i + 1) in
    let line = monitor_text (i + 1) c.at.result.now in
    on_err _ _ (stops_within (w c.args.out.now) (w c.loop-i.out) (w c.put_line.new.out) (monitors_text (take i per)) line (monitors_text (take (i + 1) per)) split.0 (monitors_text per) c.in_ok-monitor_line.field-0.items
    (monitors_more per i c.at.result.now (omega (arith, c.loop-i-test.true, c.len-i-end.ensures)) c.at.ensures) split.1 c.in_ok-monitor_line.ensures
    c.loop-i.invariant.written c.in_err-put_line.ensures.err)

pub loop-i-preserved : goal.loop-i-preserved
loop-i-preserved g c =
    let w = g.O.Sink.written in
    let per = c.args.per.now in
    let i = c.loop-i.i in
    let line = monitor_text (i + 1) c.at.result.now in
    record {
      written = goes_on (w c.args.out.now) (w c.loop-i.out) (w c.put_line.new.out) (monitors_text (take i per)) line (monitors_text (take (i + 1) per)) c.in_ok-monitor_line.field-0.items
          (monitors_more per i c.at.result.now (omega (arith, c.loop-i-test.true, c.len-i-end.ensures)) c.at.ensures) c.in_ok-monitor_line.ensures
          c.loop-i.invariant.written c.in_ok-put_line.ensures.ok;
      faults = c.in_ok-put_line.ensures.counted ∙ c.loop-i.invariant.faults;
    }
