use Rattle.tk_commands.proofs.TracedLemmas.{right_is_read}
use Rattle.tk_commands.proofs.laws.a_right_trace_is_read.Goals as goal

pub returns : goal.returns
returns c = λ reads name bytes status told right loads. right_is_read reads name bytes status told right loads
