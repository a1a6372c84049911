use Rattle.tk_journal.proofs.SoundLemmas.{legal_firm}
use Rattle.tk_journal.proofs.laws.frames_are_short.Goals as goal

pub returns : goal.returns
returns c = λ o j set legal. (legal_firm o j set legal).short
