use Rattle.tk_trail.proofs.LawLemmas.{frames_carry}
use Rattle.tk_trail.proofs.laws.frames_carry_the_sequence_of_their_place.Goals as goal

pub returns : goal.returns
returns c = frames_carry
