use Rattle.tk_show.proofs.ListLemmas.{three_on}
use Rattle.tk_show.proofs.turned.push_kind.Goals as goal

pub returns : goal.returns
returns c = three_on c.push_if-2.result _ _ _ _ _ _ _ c.in_ok-push_if.ensures c.in_ok-push_round.ensures c.push_if-2.ensures
