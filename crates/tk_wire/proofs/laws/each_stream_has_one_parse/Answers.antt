use Rattle.std.proofs.Common.{sym, ◌∙◌}
use Rattle.tk_wire.proofs.ParseLemmas.{parses_end_alike}
use Rattle.tk_wire.proofs.laws.each_stream_has_one_parse.Goals as goal

pub returns : goal.returns
returns c = λ version fs gs came r s left left_ends right right_ends. parses_end_alike version fs gs r s left.each left_ends right.each right_ends (sym left.parts ∙ right.parts)
