use Rattle.tk_watch.proofs.LastTicksLemmas.{hold_the_last_ticks}
use Rattle.tk_watch.proofs.laws.windows_hold_the_last_ticks.Goals as goal

pub returns : goal.returns
returns c = hold_the_last_ticks
