use Rattle.tk_compact.proofs.AnewLemmas.{begins_anew}
use Rattle.tk_compact.proofs.laws.a_monitor_begins_anew_within_its_limits.Goals as goal

pub returns : goal.returns
returns c = begins_anew
