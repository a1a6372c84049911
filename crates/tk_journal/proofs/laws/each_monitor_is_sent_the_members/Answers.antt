use Rattle.tk_journal.proofs.LawLemmas.{orderly}
use Rattle.tk_journal.proofs.laws.each_monitor_is_sent_the_members.Goals as goal

pub returns : goal.returns
returns c = λ o j mon set legal r. (orderly o j set legal).named mon r
