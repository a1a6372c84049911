use Rattle.tk_journal.proofs.LawLemmas.{sum_zero}
use Rattle.tk_journal.proofs.laws.factors_sum_to_zero.Goals as goal

pub returns : goal.returns
returns c = sum_zero
