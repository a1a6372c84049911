use Rattle.tk_trail.proofs.SaysLemmas.{law_report, law_settled, law_values}
use Rattle.tk_trail.proofs.speaking.frames_speak_of_their_places.Goals as goal

pub returns-clause-settled : goal.returns-clause-settled
returns-clause-settled c = law_settled

pub returns-clause-report : goal.returns-clause-report
returns-clause-report c = law_report

pub returns-clause-values : goal.returns-clause-values
returns-clause-values c = law_values
