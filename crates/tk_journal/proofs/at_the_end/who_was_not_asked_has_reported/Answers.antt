use Rattle.tk_journal.proofs.LawLemmas.{orderly}
use Rattle.tk_journal.proofs.at_the_end.who_was_not_asked_has_reported.Goals as goal

pub returns : goal.returns
returns c = λ o j mon set legal m is none. (orderly o j set legal).openers is mon m none
