use Rattle.tk_trail.proofs.SendsLemmas.{speaks_now}
use Rattle.tk_trail.proofs.speaking.what_is_still_is_said_of_now.Goals as goal

pub returns : goal.returns
returns c = speaks_now
