use Rattle.tk_alloc.proofs.MendLemmas.{short_mends}
use Rattle.tk_alloc.proofs.mending.a_short_round_mends.Goals as goal

pub returns : goal.returns
returns c = short_mends
