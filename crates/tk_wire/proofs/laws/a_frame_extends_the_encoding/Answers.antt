use Rattle.tk_wire.proofs.ParseLemmas.{encoding-frame}
use Rattle.tk_wire.proofs.laws.a_frame_extends_the_encoding.Goals as goal

pub returns : goal.returns
returns c = encoding-frame
