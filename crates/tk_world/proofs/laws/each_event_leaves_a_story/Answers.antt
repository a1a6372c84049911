use Rattle.tk_world.proofs.StepLemmas.{next_is_story}
use Rattle.tk_world.proofs.laws.each_event_leaves_a_story.Goals as goal

pub returns : goal.returns
returns c = next_is_story
