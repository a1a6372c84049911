use Rattle.tk_journal.proofs.StreakLemmas.{streak_got}
use Rattle.tk_journal.proofs.turns.the_streak_over_a_turn.Goals as goal

pub returns : goal.returns
returns c = streak_got
