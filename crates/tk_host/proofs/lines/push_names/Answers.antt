use Rattle.std.proofs.Common.{arith}
use Rattle.tk_journal.proofs.LineLemmas.{grown, names_more}
use Rattle.tk_host.proofs.lines.push_names.Goals as goal

pub loop-i-preserved : goal.loop-i-preserved
loop-i-preserved c =
    grown _ _ _ _ _ _ c.loop-i.invariant c.in_ok-push_name.ensures
    (names_more c.args.names.now c.args.members.now c.loop-i.i c.at.result.0 c.name.result.now (omega arith) c.at.ensures.value c.name.ensures)
