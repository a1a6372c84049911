use Rattle.tk_wire.proofs.ParseLemmas.{parse-frame}
use Rattle.tk_wire.proofs.laws.a_frame_extends_the_parse.Goals as goal

pub returns : goal.returns
returns c = parse-frame
