use Rattle.std.proofs.Common.{sym, ◌∙◌}
use Rattle.tk_input.proofs.CuttingLemmas.{first_cut, last_cut}
use Rattle.tk_input.proofs.plain.split_line.Goals as goal

pub returns-in-Some-clause-records : goal.returns-in-Some-clause-records
returns-in-Some-clause-records c = first_cut c.args.text.now c.in-Some.place (sym c.place_of.ensures ∙ c.in-Some.is)

pub returns-in-None-clause-records : goal.returns-in-None-clause-records
returns-in-None-clause-records c = last_cut c.args.text.now (sym c.place_of.ensures ∙ c.in-None.is)
