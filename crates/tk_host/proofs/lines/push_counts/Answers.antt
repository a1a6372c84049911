use Rattle.std.proofs.Common.{arith}
use Rattle.tk_journal.proofs.LineLemmas.{grown}
use Rattle.tk_host.proofs.LineLemmas.{counts_more}
use Rattle.tk_host.proofs.lines.push_counts.Goals as goal

pub loop-i-preserved : goal.loop-i-preserved
loop-i-preserved c =
    grown _ _ _ _ _ _ c.loop-i.invariant c.in_ok-push_next.ensures
    (counts_more c.args.beginnings.now c.loop-i.i (omega arith))
