use Rattle.tk_trail.proofs.AlikeLemmas.{legal_reached}
use Rattle.tk_trail.proofs.growing.legality_looks_at_what_is_reached.Goals as goal

pub returns : goal.returns
returns c = legal_reached
