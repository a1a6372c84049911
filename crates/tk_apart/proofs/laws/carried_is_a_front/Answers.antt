use Rattle.tk_apart.proofs.CarriedLemmas.{carried_front}
use Rattle.tk_apart.proofs.laws.carried_is_a_front.Goals as goal

pub returns : goal.returns
returns c = carried_front
