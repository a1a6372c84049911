use Rattle.tk_run.proofs.InputLemmas.{input_is_run}
use Rattle.tk_run.proofs.headline.an_input_is_run.Goals as goal

pub returns : goal.returns
returns c = λ words asked met contents status understood given written ends.
    let single = c.what_single_commands_are_told_is_meant.ensures in
    input_is_run c.what_is_told_is_meant.ensures single.sessions single.queries c.a_right_trace_is_read.ensures words asked met contents status understood given written ends
