use Rattle.tk_journal.proofs.LastLemmas.{last_asked}
use Rattle.tk_journal.proofs.sending.an_awaited_monitor_was_last_asked.Goals as goal

pub returns : goal.returns
returns c = λ o j mon set legal m waits. last_asked o j set legal mon m waits
