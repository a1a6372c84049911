use Rattle.tk_journal.proofs.Published.{legal_counted}
use Rattle.tk_journal.proofs.laws.publications_are_numbered.Goals as goal

pub returns : goal.returns
returns c = legal_counted
