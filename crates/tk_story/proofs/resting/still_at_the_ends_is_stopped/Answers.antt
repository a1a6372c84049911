use Rattle.tk_story.proofs.StillLemmas.{ended_is_stopped}
use Rattle.tk_story.proofs.resting.still_at_the_ends_is_stopped.Goals as goal

pub returns : goal.returns
returns c = ended_is_stopped
