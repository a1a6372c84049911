use Rattle.tk_story.proofs.MomentLemmas.{moment_is_story}
use Rattle.tk_story.proofs.validity.a_moment_is_a_story.Goals as goal

pub returns : goal.returns
returns c = moment_is_story
