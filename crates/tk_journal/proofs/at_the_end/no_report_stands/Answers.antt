use Rattle.tk_journal.proofs.RestLemmas.{no_report_stands}
use Rattle.tk_journal.proofs.at_the_end.no_report_stands.Goals as goal

pub returns : goal.returns
returns c = no_report_stands
