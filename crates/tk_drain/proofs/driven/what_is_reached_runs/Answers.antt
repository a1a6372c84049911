use Rattle.tk_drain.proofs.DrivenLemmas.{reached_runs}
use Rattle.tk_drain.proofs.driven.what_is_reached_runs.Goals as goal

pub returns : goal.returns
returns c = reached_runs
