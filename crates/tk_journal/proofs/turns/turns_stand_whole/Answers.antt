use Rattle.tk_journal.proofs.WholeLemmas.{stands_whole}
use Rattle.tk_journal.proofs.turns.turns_stand_whole.Goals as goal

pub returns : goal.returns
returns c = stands_whole
