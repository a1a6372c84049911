use Rattle.tk_multi.proofs.WatchLemmas.{one_name}
use Rattle.tk_multi.proofs.laws.a_watched_object_keeps_its_name.Goals as goal

pub returns : goal.returns
returns c = one_name
