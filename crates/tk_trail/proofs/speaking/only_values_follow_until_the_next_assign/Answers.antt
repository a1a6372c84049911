use Rattle.tk_trail.proofs.SaysLemmas.{law_silent}
use Rattle.tk_trail.proofs.speaking.only_values_follow_until_the_next_assign.Goals as goal

pub returns : goal.returns
returns c = law_silent
