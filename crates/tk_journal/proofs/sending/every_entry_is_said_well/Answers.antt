use Rattle.tk_journal.proofs.SendTurns.{legal_well}
use Rattle.tk_journal.proofs.sending.every_entry_is_said_well.Goals as goal

pub returns : goal.returns
returns c = λ o j w legal. (legal_well o j w legal).each
