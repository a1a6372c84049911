use Rattle.tk_journal.proofs.LineLemmas.{grown}
use Rattle.tk_host.proofs.LineLemmas.{monitors_more}
use Rattle.tk_host.proofs.lines.push_cut.Goals as goal

pub loop-i-preserved : goal.loop-i-preserved
loop-i-preserved c =
    grown _ _ _ _ _ _ c.loop-i.invariant c.in_ok-push_monitor.ensures
    (monitors_more c.args.roster.now c.args.cut.now c.loop-i.i c.at.result.now c.at.ensures)
