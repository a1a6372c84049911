use Rattle.tk_watch.proofs.CourseLemmas.{writes_nothing}
use Rattle.tk_watch.proofs.monitoring.monitor_as.Goals as goal

pub returns-in_default-clause-writes : goal.returns-in_default-clause-writes
returns-in_default-clause-writes g c = writes_nothing _ _ _

pub returns-then-not-start_all-clause-writes : goal.returns-then-not-start_all-clause-writes
returns-then-not-start_all-clause-writes g c = writes_nothing _ _ _
