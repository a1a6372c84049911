use Rattle.tk_journal.proofs.LeftLemmas.{wide_left}
use Rattle.tk_journal.proofs.rounds.a_wide_end_leaves_order.Goals as goal

pub returns : goal.returns
returns c = wide_left
