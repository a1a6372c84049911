use Rattle.tk_journal.proofs.StartLemmas.{start_set_up}
use Rattle.tk_journal.proofs.laws.a_start_is_set_up.Goals as goal

pub returns : goal.returns
returns c = start_set_up
