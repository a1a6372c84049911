use Rattle.tk_verify.proofs.RecordLemmas.{one_found}
use Rattle.tk_verify.proofs.laws.one_finding.Goals as goal

pub returns : goal.returns
returns c = one_found
