use Rattle.tk_multi.proofs.AloneLaws.{as_alone, as_many}
use Rattle.tk_multi.proofs.laws.each_query_is_as_alone.Goals as goal

pub returns-clause-alone : goal.returns-clause-alone
returns-clause-alone c = as_alone

pub returns-clause-count : goal.returns-clause-count
returns-clause-count c = as_many
