use Rattle.tk_load.proofs.ToldLemmas.{meant_as_told}
use Rattle.tk_commands.specs.SessionInput.{session_input_of}
use Rattle.tk_commands.proofs.ToldLemmas.{queries_as_told}
use Rattle.tk_commands.proofs.laws.what_single_commands_are_told_is_meant.Goals as goal

pub returns-clause-sessions : goal.returns-clause-sessions
returns-clause-sessions c = λ reads contents words answer are loads. meant_as_told reads contents session_input_of words answer are loads

pub returns-clause-queries : goal.returns-clause-queries
returns-clause-queries c = λ reads contents words answer are loads. queries_as_told reads contents words answer are loads
