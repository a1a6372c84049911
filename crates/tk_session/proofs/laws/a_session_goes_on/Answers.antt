use Rattle.tk_session.proofs.SessionLemmas.{session_goes_on}
use Rattle.tk_session.proofs.laws.a_session_goes_on.Goals as goal

pub returns : goal.returns
returns c = session_goes_on c.one_story.ensures.runs c.a_run_leaves_a_story.ensures c.what_is_reached_runs.ensures
