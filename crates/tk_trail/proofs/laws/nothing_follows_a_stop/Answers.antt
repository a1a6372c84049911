use Rattle.tk_trail.proofs.LawLemmas.{nothing_after}
use Rattle.tk_trail.proofs.laws.nothing_follows_a_stop.Goals as goal

pub returns : goal.returns
returns c = nothing_after
