use Rattle.std.proofs.Common.{sym, ◌∙◌}
use Rattle.tk_wire.proofs.ParseLemmas.{parses_are_fronts}
use Rattle.tk_wire.proofs.laws.all_parses_are_fronts_of_one.Goals as goal

pub returns : goal.returns
returns c = λ version fs gs came r s left right fewer. parses_are_fronts version fs gs r s left.each right.each (sym left.parts ∙ right.parts) fewer
