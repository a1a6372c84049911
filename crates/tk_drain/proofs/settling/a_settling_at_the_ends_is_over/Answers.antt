use Rattle.tk_drain.proofs.FinishLemmas.{settled_is_over}
use Rattle.tk_drain.proofs.settling.a_settling_at_the_ends_is_over.Goals as goal

pub returns : goal.returns
returns c = settled_is_over
