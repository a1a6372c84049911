use Rattle.std.proofs.Common.{take}
use Rattle.tk_watch.specs.Feeding.{TakesEach}
use Rattle.tk_watch.specs.Watch.{IsWatch}
use Rattle.tk_watch.proofs.feeding.take_each.Given as goal

-- those so far were taken
abbrev pub invariant-loop-i : goal.invariant-loop-i
invariant-loop-i g l = TakesEach l.initial.watched.watch l.initial.watched.windows l.f (take l.i l.batch) l.watched.windows l.watched.watch × IsWatch l.watched.watch
