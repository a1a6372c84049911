use Rattle.tk_wire.proofs.ParseLemmas.{encoding-piece}
use Rattle.tk_wire.proofs.laws.a_piece_leaves_the_encoding.Goals as goal

pub returns : goal.returns
returns c = encoding-piece
