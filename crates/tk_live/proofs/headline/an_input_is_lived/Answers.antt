use Rattle.tk_live.proofs.LawLemmas.{input_is_lived}
use Rattle.tk_live.proofs.headline.an_input_is_lived.Goals as goal

pub returns : goal.returns
returns c = λ words asked met contents outcome understood given linked written ends.
    input_is_lived c.what_is_told_is_meant.ensures words asked met contents outcome understood given linked written ends
