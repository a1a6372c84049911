use Rattle.tk_session.proofs.ChainLemmas.{one_for_each}
use Rattle.tk_session.proofs.laws.one_story_for_each_stretch.Goals as goal

pub returns : goal.returns
returns c = one_for_each
