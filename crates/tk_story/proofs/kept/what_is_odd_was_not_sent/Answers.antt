use Rattle.tk_story.proofs.KeptLemmas.{odd_at_a_monitor, odd_at_the_coordinator}
use Rattle.tk_story.proofs.kept.what_is_odd_was_not_sent.Goals as goal

pub returns-clause-coordinator : goal.returns-clause-coordinator
returns-clause-coordinator c = odd_at_the_coordinator

pub returns-clause-monitor : goal.returns-clause-monitor
returns-clause-monitor c = odd_at_a_monitor
