use Rattle.tk_drain.proofs.SettleLemmas.{few_of_each}
use Rattle.tk_drain.proofs.settling.few_events_of_each.Goals as goal

pub returns : goal.returns
returns c = few_of_each
