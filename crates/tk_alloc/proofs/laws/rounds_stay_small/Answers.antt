use Rattle.tk_alloc.proofs.SizeLemmas.{rounds_are_sized}
use Rattle.tk_alloc.proofs.WideSizeLemmas.{totals_are_sized, wide_is_sized}
use Rattle.tk_alloc.proofs.laws.rounds_stay_small.Goals as goal

pub returns-clause-asked : goal.returns-clause-asked
returns-clause-asked c = rounds_are_sized

pub returns-clause-wide : goal.returns-clause-wide
returns-clause-wide c = λ setup grid present reports w. (wide_is_sized setup grid present reports w, totals_are_sized setup grid reports w)
