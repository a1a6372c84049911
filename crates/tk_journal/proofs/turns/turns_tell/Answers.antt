use Rattle.tk_journal.proofs.KindLemmas.{rounds_read, streak_read, wide_asks}
use Rattle.tk_journal.proofs.turns.turns_tell.Goals as goal

pub returns-clause-streak : goal.returns-clause-streak
returns-clause-streak c = streak_read

pub returns-clause-rounds : goal.returns-clause-rounds
returns-clause-rounds c = rounds_read

pub returns-clause-wide : goal.returns-clause-wide
returns-clause-wide c = wide_asks
