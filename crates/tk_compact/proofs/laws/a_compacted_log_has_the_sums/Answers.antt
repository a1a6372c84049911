use Rattle.tk_compact.proofs.CompactedLemmas.{compacted_limits, compacted_sums}
use Rattle.tk_compact.proofs.laws.a_compacted_log_has_the_sums.Goals as goal

pub returns-clause-sums : goal.returns-clause-sums
returns-clause-sums c = compacted_sums

pub returns-clause-limits : goal.returns-clause-limits
returns-clause-limits c = compacted_limits
