use Rattle.tk_wire.proofs.ParseLemmas.{parse-piece}
use Rattle.tk_wire.proofs.laws.a_piece_leaves_the_parse.Goals as goal

pub returns : goal.returns
returns c = parse-piece
