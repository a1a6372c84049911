use Rattle.tk_journal.proofs.ProgressLemmas.{cuts_go_on}
use Rattle.tk_journal.proofs.at_the_end.publications_never_go_back.Goals as goal

pub returns : goal.returns
returns c = cuts_go_on
