use Rattle.tk_drain.proofs.PassingLemmas.{Passed}
use Rattle.tk_drain.proofs.finishing.finish.Given as goal

-- the passes so far are done, and of each part that is no longer raised all is raised
abbrev pub invariant-loop-pass : goal.invariant-loop-pass
invariant-loop-pass g l = Passed l.initial.world l.world l.parts.items l.pass
