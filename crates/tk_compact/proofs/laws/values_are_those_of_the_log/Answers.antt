use Rattle.tk_compact.proofs.StandingLemmas.{goes_on, values_of_log}
use Rattle.tk_compact.proofs.laws.values_are_those_of_the_log.Goals as goal

pub returns-clause-values : goal.returns-clause-values
returns-clause-values c = values_of_log

pub returns-clause-goes_on : goal.returns-clause-goes_on
returns-clause-goes_on c = goes_on
