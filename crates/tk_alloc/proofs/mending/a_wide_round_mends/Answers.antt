use Rattle.tk_alloc.proofs.MendLemmas.{wide_mends}
use Rattle.tk_alloc.proofs.mending.a_wide_round_mends.Goals as goal

pub returns : goal.returns
returns c = wide_mends
