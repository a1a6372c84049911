use Rattle.std.specs.Prelude.{length}
use Rattle.tk_recent_tests.proofs.TellingLemmas.{Tells}
use Rattle.tk_recent_tests.proofs.tests.tell_back.Given as goal

abbrev pub invariant-loop-change : goal.invariant-loop-change
invariant-loop-change l = Tells l.fn.told l.told l.fn.recent l.recent

abbrev pub decreases-loop-change : goal.decreases-loop-change
decreases-loop-change l = length l.recent.back
