use Rattle.tk_compact.proofs.AsBeforeLemmas.{begins_as_before}
use Rattle.tk_compact.proofs.laws.a_monitor_begins_anew_as_it_was.Goals as goal

pub returns : goal.returns
returns c = begins_as_before
