use Rattle.tk_frames.proofs.EncodingLemmas.{one_spelling}
use Rattle.tk_frames.proofs.laws.no_spelling_begins_another.Goals as goal

pub returns : goal.returns
returns c = λ version f g a b x y is left right same. one_spelling version f g a b x y left right same
