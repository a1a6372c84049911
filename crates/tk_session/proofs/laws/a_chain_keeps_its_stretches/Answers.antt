use Rattle.tk_session.proofs.PlayLemmas.{chain_keeps_its_stretches}
use Rattle.tk_session.proofs.laws.a_chain_keeps_its_stretches.Goals as goal

pub returns : goal.returns
returns c =
    chain_keeps_its_stretches c.a_beginning_is_a_story.ensures c.a_story_ends_at_a_cut.ensures c.a_drive_is_reached.ensures.finished c.a_beginning_is_a_session.ensures c.a_session_goes_on.ensures
