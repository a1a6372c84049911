use Rattle.tk_journal.proofs.HeardLemmas.{heard_before}
use Rattle.tk_journal.proofs.at_the_end.each_assign_was_heard_of.Goals as goal

pub returns : goal.returns
returns c = heard_before
