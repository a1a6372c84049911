use Rattle.tk_journal.proofs.StandLemmas.{answer_stands}
use Rattle.tk_journal.proofs.at_the_end.an_answer_stands.Goals as goal

pub returns : goal.returns
returns c = answer_stands
