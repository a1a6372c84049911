use Rattle.tk_hub.proofs.DeskLemmas.{opened_inputs}
use Rattle.tk_hub.proofs.laws.an_opening_has_no_input.Goals as goal

pub returns : goal.returns
returns c = opened_inputs
