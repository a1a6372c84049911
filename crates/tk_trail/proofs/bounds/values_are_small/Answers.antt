use Rattle.tk_trail.proofs.BoundLemmas.{small_values}
use Rattle.tk_trail.proofs.bounds.values_are_small.Goals as goal

pub returns : goal.returns
returns c = small_values
