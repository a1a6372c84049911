use Rattle.tk_journal.proofs.Published.{legal_say}
use Rattle.tk_journal.proofs.laws.publications_are_due.Goals as goal

pub returns : goal.returns
returns c = legal_say
