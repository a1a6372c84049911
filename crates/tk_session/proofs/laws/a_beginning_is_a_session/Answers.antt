use Rattle.tk_session.proofs.SessionLemmas.{session_begins}
use Rattle.tk_session.proofs.laws.a_beginning_is_a_session.Goals as goal

pub returns : goal.returns
returns c = session_begins c.what_is_reached_runs.ensures
