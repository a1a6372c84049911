use Rattle.tk_journal.proofs.GatheredLemmas.{gathered_are_fresh}
use Rattle.tk_journal.proofs.sending.gathered_are_fresh.Goals as goal

pub returns : goal.returns
returns c = gathered_are_fresh
