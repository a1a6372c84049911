use Rattle.tk_window.proofs.ValidityLemmas.{total_at_ticks}
use Rattle.tk_window.proofs.laws.totals_are_those_of_the_windows.Goals as goal

pub returns : goal.returns
returns c = λ width o logs cut ticks found. total_at_ticks width o logs cut ticks found
