use Rattle.tk_journal.proofs.Answering.{answer_fresh}
use Rattle.tk_journal.proofs.laws.answers_are_fresh.Goals as goal

pub returns : goal.returns
returns c = answer_fresh
