use Rattle.tk_recent.proofs.RunLemmas.{told_in_order}
use Rattle.tk_recent.proofs.laws.ticks_are_told_in_order.Goals as goal

pub returns : goal.returns
returns c = told_in_order
