use Rattle.tk_compact.proofs.StandingLemmas.{moved_place}
use Rattle.tk_compact.proofs.laws.a_moved_place_is_origin_and_place.Goals as goal

pub returns : goal.returns
returns c = moved_place
