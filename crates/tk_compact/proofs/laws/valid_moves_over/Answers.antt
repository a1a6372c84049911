use Rattle.tk_compact.proofs.StandingLemmas.{valid_moves}
use Rattle.tk_compact.proofs.laws.valid_moves_over.Goals as goal

pub returns : goal.returns
returns c = valid_moves
