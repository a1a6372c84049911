use Rattle.tk_recent.proofs.RunLemmas.{sums_of_window}
use Rattle.tk_recent.proofs.laws.values_are_those_of_the_window.Goals as goal

pub returns : goal.returns
returns c = sums_of_window
