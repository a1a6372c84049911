use Rattle.tk_window.proofs.ValidityLemmas.{valid_at_ticks}
use Rattle.tk_window.proofs.laws.a_valid_set_is_valid_for_the_windows.Goals as goal

pub returns : goal.returns
returns c = λ width n k epsilon logs cut ticks set found valid. valid_at_ticks width n k epsilon logs cut ticks set found valid
