use Rattle.tk_journal.proofs.StandLemmas.{nothing_stays_due}
use Rattle.tk_journal.proofs.at_the_end.nothing_stays_due.Goals as goal

pub returns : goal.returns
returns c = nothing_stays_due
