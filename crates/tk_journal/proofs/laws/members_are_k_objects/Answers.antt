use Rattle.tk_journal.proofs.SoundLemmas.{legal_firm}
use Rattle.tk_journal.proofs.laws.members_are_k_objects.Goals as goal

pub returns : goal.returns
returns c = λ o j set legal. let chosen = (legal_firm o j set legal).standing.chosen in record { count = chosen.count; ascends = chosen.ascends; within = chosen.within }
