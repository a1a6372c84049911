use Rattle.tk_alloc.proofs.CalmLemmas.{calm_from}
use Rattle.tk_alloc.proofs.mending.order_is_calm.Goals as goal

pub returns : goal.returns
returns c = calm_from
