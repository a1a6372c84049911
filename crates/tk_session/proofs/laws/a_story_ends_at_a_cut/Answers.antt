use Rattle.tk_session.proofs.CutLemmas.{story_ends_at_a_cut}
use Rattle.tk_session.proofs.laws.a_story_ends_at_a_cut.Goals as goal

pub returns : goal.returns
returns c = story_ends_at_a_cut c.places_stay_within_the_parts.ensures
