use Rattle.tk_compact.proofs.BaseLemmas.{base_stands}
use Rattle.tk_compact.proofs.laws.a_base_stands_for_what_was_reached.Goals as goal

pub returns : goal.returns
returns c = base_stands
