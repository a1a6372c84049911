use Rattle.tk_drain.proofs.SettleLemmas.{few_rounds}
use Rattle.tk_drain.proofs.settling.a_settling_opens_few_rounds.Goals as goal

pub returns : goal.returns
returns c = few_rounds
