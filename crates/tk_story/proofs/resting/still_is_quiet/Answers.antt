use Rattle.tk_story.proofs.StillLemmas.{still_is_quiet}
use Rattle.tk_story.proofs.resting.still_is_quiet.Goals as goal

pub returns : goal.returns
returns c = still_is_quiet
