use Rattle.tk_recent.proofs.RunLemmas.{sums_expanded}
use Rattle.tk_recent.proofs.laws.sums_are_those_of_the_expanded_log.Goals as goal

pub returns : goal.returns
returns c = sums_expanded
