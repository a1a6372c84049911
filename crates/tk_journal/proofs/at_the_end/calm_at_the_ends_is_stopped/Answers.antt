use Rattle.tk_journal.proofs.StandLemmas.{calm_and_last_is_stopped}
use Rattle.tk_journal.proofs.at_the_end.calm_at_the_ends_is_stopped.Goals as goal

pub returns : goal.returns
returns c = calm_and_last_is_stopped
