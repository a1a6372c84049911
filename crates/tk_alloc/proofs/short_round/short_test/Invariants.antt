use Rattle.tk_alloc.proofs.ShortTestLemmas.{AreAbove}
use Rattle.tk_alloc.proofs.short_round.short_test.Given as goal

abbrev pub invariant-loop-place : goal.invariant-loop-place
invariant-loop-place l = AreAbove l.settings l.table l.members l.report l.place l.greatest
