use Rattle.tk_multi.proofs.WatchedLemmas.{counts, holds}
use Rattle.tk_multi.proofs.laws.a_query_counts_what_the_logs_count.Goals as goal

pub returns-clause-total : goal.returns-clause-total
returns-clause-total c = counts

pub returns-clause-set : goal.returns-clause-set
returns-clause-set c = holds
