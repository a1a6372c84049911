use Rattle.tk_share.proofs.ShareLemmas.{shares_sum}
use Rattle.tk_share.proofs.laws.shares_sum_to_the_leeway.Goals as goal

pub returns : goal.returns
returns c = shares_sum
