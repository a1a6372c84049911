use Rattle.tk_drain.proofs.EndLemmas.{idle_is_calm, idle_took_stop}
use Rattle.tk_drain.proofs.settling.where_nothing_moves_all_is_calm.Goals as goal

pub returns-clause-calm : goal.returns-clause-calm
returns-clause-calm c = idle_is_calm

pub returns-clause-stopped : goal.returns-clause-stopped
returns-clause-stopped c = idle_took_stop
