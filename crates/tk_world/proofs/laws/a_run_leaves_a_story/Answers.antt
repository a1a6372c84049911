use Rattle.tk_world.proofs.StepLemmas.{after_is_story}
use Rattle.tk_world.proofs.laws.a_run_leaves_a_story.Goals as goal

pub returns : goal.returns
returns c = after_is_story
