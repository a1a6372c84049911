use Rattle.tk_trail.proofs.BoundLemmas.{named_outsiders}
use Rattle.tk_trail.proofs.bounds.a_report_names_outsiders.Goals as goal

pub returns : goal.returns
returns c = named_outsiders
