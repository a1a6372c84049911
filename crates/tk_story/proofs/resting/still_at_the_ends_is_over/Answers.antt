use Rattle.tk_story.proofs.OverLemmas.{still_is_over}
use Rattle.tk_story.proofs.resting.still_at_the_ends_is_over.Goals as goal

pub returns : goal.returns
returns c = still_is_over
