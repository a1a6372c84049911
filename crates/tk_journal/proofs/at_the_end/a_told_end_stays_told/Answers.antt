use Rattle.tk_journal.proofs.ProgressLemmas.{settled_progress}
use Rattle.tk_journal.proofs.StandLemmas.{end_stays_told}
use Rattle.tk_journal.proofs.at_the_end.a_told_end_stays_told.Goals as goal

pub returns-clause-told : goal.returns-clause-told
returns-clause-told c = end_stays_told

pub returns-clause-current : goal.returns-clause-current
returns-clause-current c = settled_progress
