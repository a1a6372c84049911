use Rattle.tk_story.proofs.KeptLemmas.{one_first}
use Rattle.tk_story.proofs.kept.one_first_difference.Goals as goal

pub returns : goal.returns
returns c = one_first
