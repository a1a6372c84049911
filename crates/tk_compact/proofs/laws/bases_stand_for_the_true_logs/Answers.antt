use Rattle.tk_compact.proofs.ChainLemmas.{anew_behind, bases_stand, grown_starts}
use Rattle.tk_compact.proofs.laws.bases_stand_for_the_true_logs.Goals as goal

pub returns-clause-sessions : goal.returns-clause-sessions
returns-clause-sessions c = (anew_behind, grown_starts)

pub returns-clause-chain : goal.returns-clause-chain
returns-clause-chain c = bases_stand
