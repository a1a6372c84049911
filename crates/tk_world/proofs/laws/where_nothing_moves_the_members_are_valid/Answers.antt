use Rattle.tk_world.proofs.IdleLemmas.{idle_holds, idle_is_still}
use Rattle.tk_world.proofs.laws.where_nothing_moves_the_members_are_valid.Goals as goal

pub returns-clause-still : goal.returns-clause-still
returns-clause-still c = idle_is_still

pub returns-clause-holds : goal.returns-clause-holds
returns-clause-holds c = idle_holds
