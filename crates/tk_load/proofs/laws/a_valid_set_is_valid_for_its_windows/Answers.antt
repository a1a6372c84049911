use Rattle.tk_load.proofs.WindowedLemmas.{valid_for_its_windows}
use Rattle.tk_load.proofs.laws.a_valid_set_is_valid_for_its_windows.Goals as goal

pub returns : goal.returns
returns c = λ words width k epsilon input ends cut ticks set over has found valid. valid_for_its_windows c.a_valid_set_is_valid_for_the_windows.ensures words width k epsilon input ends cut ticks set over has found valid
