use Rattle.tk_trail.proofs.LawLemmas.{front_legal}
use Rattle.tk_trail.proofs.laws.a_front_is_legal.Goals as goal

pub returns : goal.returns
returns c = front_legal
