use Rattle.tk_trail.proofs.GrowingLemmas.{grown_legal, grown_says, open_not_ended}
use Rattle.tk_trail.proofs.growing.a_grown_trail_is_legal.Goals as goal

pub returns-clause-legal : goal.returns-clause-legal
returns-clause-legal c = grown_legal

pub returns-clause-reads : goal.returns-clause-reads
returns-clause-reads c = grown_says

pub returns-clause-open : goal.returns-clause-open
returns-clause-open c = open_not_ended
