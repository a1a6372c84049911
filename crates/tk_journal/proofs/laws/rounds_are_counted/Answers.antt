use Rattle.tk_journal.proofs.LawLemmas.{orderly}
use Rattle.tk_journal.proofs.laws.rounds_are_counted.Goals as goal

pub returns : goal.returns
returns c = λ o j set legal. let c = (orderly o j set legal).counted in record { last = c.last; asked = c.asked; values = c.values }
