use Rattle.tk_drain.proofs.SettleLemmas.{settling_is_short}
use Rattle.tk_drain.proofs.settling.a_settling_is_short.Goals as goal

pub returns : goal.returns
returns c = settling_is_short
