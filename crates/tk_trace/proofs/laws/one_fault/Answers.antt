use Rattle.tk_trace.proofs.CheckLemmas.{one_wrong}
use Rattle.tk_trace.proofs.laws.one_fault.Goals as goal

pub returns : goal.returns
returns c = one_wrong c.one_finding.ensures
