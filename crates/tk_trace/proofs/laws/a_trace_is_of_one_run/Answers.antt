use Rattle.tk_trace.proofs.TraceLemmas.{one_run}
use Rattle.tk_trace.proofs.laws.a_trace_is_of_one_run.Goals as goal

pub returns : goal.returns
returns c = one_run
