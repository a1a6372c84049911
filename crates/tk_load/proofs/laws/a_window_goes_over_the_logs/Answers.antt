use Rattle.tk_load.proofs.WindowedLemmas.{windowed}
use Rattle.tk_load.proofs.laws.a_window_goes_over_the_logs.Goals as goal

pub returns : goal.returns
returns c = λ words width input same is. windowed words width input same is
