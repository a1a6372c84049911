use Rattle.tk_drain.proofs.SettleLemmas.{energy_most, own_most}
use Rattle.tk_drain.proofs.settling.energy_is_bounded.Goals as goal

pub returns-clause-all : goal.returns-clause-all
returns-clause-all c = energy_most

pub returns-clause-each : goal.returns-clause-each
returns-clause-each c = own_most
