use Rattle.tk_trail.proofs.BoundLemmas.{places_within}
use Rattle.tk_trail.proofs.bounds.settled_places_are_within_limits.Goals as goal

pub returns : goal.returns
returns c = places_within
