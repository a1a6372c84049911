use Rattle.tk_world.proofs.StepLemmas.{begin_is_story}
use Rattle.tk_world.proofs.laws.a_beginning_is_a_story.Goals as goal

pub returns : goal.returns
returns c = begin_is_story
