use Rattle.std.proofs.Common.{◌+◌, ◌-◌}
use Rattle.tk_drain.proofs.LegLemmas.{LegUpTo}
use Rattle.tk_drain.proofs.leg.run.Given as goal

abbrev pub invariant-loop-mon : goal.invariant-loop-mon
invariant-loop-mon g l = LegUpTo l.leg l.initial.world l.world l.moved l.next.0

-- the monitors that are left
abbrev pub decreases-loop-mon : goal.decreases-loop-mon
decreases-loop-mon g l = l.world.story.settings.monitors + 1 - l.next.0
