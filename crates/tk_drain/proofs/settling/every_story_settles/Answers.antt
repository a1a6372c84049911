use Rattle.tk_drain.proofs.EndLemmas.{every_story_settles}
use Rattle.tk_drain.proofs.settling.every_story_settles.Goals as goal

pub returns : goal.returns
returns c = every_story_settles
