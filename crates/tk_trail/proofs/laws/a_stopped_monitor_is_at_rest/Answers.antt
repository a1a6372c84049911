use Rattle.tk_trail.proofs.LawLemmas.{stopped_rest}
use Rattle.tk_trail.proofs.laws.a_stopped_monitor_is_at_rest.Goals as goal

pub returns-clause-ends : goal.returns-clause-ends
returns-clause-ends c setup trail shape legal stop = (stopped_rest setup trail shape legal stop).ends

pub returns-clause-calm : goal.returns-clause-calm
returns-clause-calm c setup trail shape legal stop = (stopped_rest setup trail shape legal stop).calm
