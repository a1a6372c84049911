use Rattle.tk_load.specs.Input.{input_of}
use Rattle.tk_load.proofs.ToldLemmas.{meant_as_told}
use Rattle.tk_load.proofs.laws.what_is_told_is_meant.Goals as goal

pub returns : goal.returns
returns c = λ reads contents words answer are loads. meant_as_told reads contents input_of words answer are loads
