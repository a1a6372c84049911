use Rattle.tk_journal.proofs.LeftLemmas.{short_calm, short_left}
use Rattle.tk_journal.proofs.rounds.a_short_turn_leaves_order.Goals as goal

pub returns-clause-order : goal.returns-clause-order
returns-clause-order c = short_left

pub returns-clause-calm : goal.returns-clause-calm
returns-clause-calm c = short_calm
