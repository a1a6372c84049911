use Rattle.tk_trail.proofs.OrderLemmas.{in_order}
use Rattle.tk_trail.proofs.speaking.what_is_not_broken_is_in_order.Goals as goal

pub returns : goal.returns
returns c = in_order
