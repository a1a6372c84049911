use Rattle.tk_journal.proofs.LeftLemmas.{full_left, lone_left}
use Rattle.tk_journal.proofs.rounds.a_full_end_leaves_order.Goals as goal

pub returns-clause-several : goal.returns-clause-several
returns-clause-several c = full_left

pub returns-clause-one : goal.returns-clause-one
returns-clause-one c = lone_left
