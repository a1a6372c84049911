use Rattle.std.proofs.Common.{arith, refl}
use Rattle.tk_journal.proofs.LineLemmas.{grown, places_more}
use Rattle.tk_watch.proofs.lines.push_counts.Goals as goal

pub loop-i-preserved : goal.loop-i-preserved
loop-i-preserved c =
    grown _ _ _ _ _ _ c.loop-i.invariant c.in_ok-push_count.ensures
    (places_more c.args.counts.now c.loop-i.i _ (omega arith) refl)
