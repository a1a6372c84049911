use Rattle.tk_apart.proofs.SoFarLemmas.{behind_start, connected_story, published_valid}
use Rattle.tk_apart.proofs.laws.a_story_is_sound_so_far.Goals as goal

pub returns-clause-story : goal.returns-clause-story
returns-clause-story c = connected_story

pub returns-clause-valid : goal.returns-clause-valid
returns-clause-valid c = published_valid

pub returns-clause-behind : goal.returns-clause-behind
returns-clause-behind c = behind_start
