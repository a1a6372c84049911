use Rattle.tk_apart.proofs.SoFarLemmas.{valid_over_true_logs}
use Rattle.tk_apart.proofs.laws.published_is_valid_over_the_true_logs.Goals as goal

pub returns : goal.returns
returns c = valid_over_true_logs
