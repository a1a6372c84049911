use Rattle.tk_trail.proofs.SendsLemmas.{few_answers}
use Rattle.tk_trail.proofs.speaking.two_answers_under_each_number.Goals as goal

pub returns : goal.returns
returns c = few_answers
