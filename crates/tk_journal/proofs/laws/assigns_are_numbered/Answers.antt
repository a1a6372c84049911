use Rattle.tk_journal.proofs.LawLemmas.{orderly}
use Rattle.tk_journal.proofs.laws.assigns_are_numbered.Goals as goal

pub returns : goal.returns
returns c = λ o j mon set legal r. (orderly o j set legal).numbered mon r
