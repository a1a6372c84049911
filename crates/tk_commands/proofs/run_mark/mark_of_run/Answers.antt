use Rattle.std.proofs.Common.{arith}
use Rattle.tk_commands.proofs.RunMarkLemmas.{mark_more}
use Rattle.tk_commands.proofs.run_mark.mark_of_run.Goals as goal

pub loop-i-preserved : goal.loop-i-preserved
loop-i-preserved c =
    mark_more c.args.run c.args.names.now c.loop-i.i c.loop-i.mark c.marked-mark-in-loop-i.result c.marked-mark-in-loop-i-2.result c.name.result.now
    (omega (arith, c.loop-i-test.true, c.len-i-end.ensures.value)) c.loop-i.invariant c.name.ensures c.marked-mark-in-loop-i.ensures c.marked-mark-in-loop-i-2.ensures
