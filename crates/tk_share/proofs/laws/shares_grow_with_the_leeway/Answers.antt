use Rattle.tk_share.proofs.ShareLemmas.{share_grows}
use Rattle.tk_share.proofs.laws.shares_grow_with_the_leeway.Goals as goal

pub returns : goal.returns
returns c = share_grows
