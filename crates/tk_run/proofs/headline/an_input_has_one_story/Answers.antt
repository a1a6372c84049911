use Rattle.tk_run.proofs.OnceLemmas.{story_once}
use Rattle.tk_run.proofs.headline.an_input_has_one_story.Goals as goal

pub returns : goal.returns
returns c = λ input a b one other. story_once input a b one other
