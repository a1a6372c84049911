use Rattle.tk_trail.proofs.BoundLemmas.{taken_within}
use Rattle.tk_trail.proofs.bounds.taken_changes_are_within_limits.Goals as goal

pub returns : goal.returns
returns c = taken_within
