use Rattle.tk_journal.proofs.HeardLemmas.{answer_was_got}
use Rattle.tk_journal.proofs.at_the_end.an_answer_was_got.Goals as goal

pub returns : goal.returns
returns c = answer_was_got
