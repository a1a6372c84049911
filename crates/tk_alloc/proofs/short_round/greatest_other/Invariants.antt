use Rattle.tk_alloc.proofs.ShortTestLemmas.{IsLead}
use Rattle.tk_alloc.proofs.short_round.greatest_other.Given as goal

abbrev pub invariant-loop-place : goal.invariant-loop-place
invariant-loop-place l = IsLead l.table l.members l.report l.place l.greatest
