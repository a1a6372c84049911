use Rattle.tk_journal.proofs.LeftLemmas.{all_reported}
use Rattle.tk_journal.proofs.rounds.each_monitor_has_reported.Goals as goal

pub returns : goal.returns
returns c = all_reported
