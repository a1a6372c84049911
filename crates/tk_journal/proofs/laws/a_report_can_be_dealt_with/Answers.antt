use Rattle.tk_journal.proofs.Dealable.{report_dealable}
use Rattle.tk_journal.proofs.laws.a_report_can_be_dealt_with.Goals as goal

pub returns : goal.returns
returns c = report_dealable
