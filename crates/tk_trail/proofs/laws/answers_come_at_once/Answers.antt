use Rattle.tk_trail.proofs.LawLemmas.{answered_at_once}
use Rattle.tk_trail.proofs.laws.answers_come_at_once.Goals as goal

pub returns : goal.returns
returns c = answered_at_once
