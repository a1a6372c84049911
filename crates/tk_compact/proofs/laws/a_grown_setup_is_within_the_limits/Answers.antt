use Rattle.tk_compact.proofs.RoomLemmas.{grown_within}
use Rattle.tk_compact.proofs.laws.a_grown_setup_is_within_the_limits.Goals as goal

pub returns : goal.returns
returns c = grown_within
