use Rattle.tk_share.proofs.ShareLemmas.{share_of_no_debt}
use Rattle.tk_share.proofs.laws.shares_of_no_debt_are_no_debts.Goals as goal

pub returns : goal.returns
returns c = share_of_no_debt
