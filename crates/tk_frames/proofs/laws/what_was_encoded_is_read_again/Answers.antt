use Rattle.tk_frames.proofs.EncodingLemmas.{spelling_stands}
use Rattle.tk_frames.proofs.laws.what_was_encoded_is_read_again.Goals as goal

pub returns : goal.returns
returns c = λ version frame bytes rest is spelled. spelling_stands version frame bytes rest spelled
