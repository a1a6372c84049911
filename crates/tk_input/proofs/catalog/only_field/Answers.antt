use Rattle.std.proofs.Common.{sym, ◌∙◌}
use Rattle.csv.specs.Records.{fields_of}
use Rattle.tk_input.proofs.NamesLemmas.{only_is}
use Rattle.tk_input.proofs.catalog.only_field.Goals as goal

pub returns-then-len-eq1 : goal.returns-then-len-eq1
returns-then-len-eq1 c = c.get.ensures.value ∙ only_is (fields_of c.args.row.now) (sym c.len.ensures ∙ c.if-len-eq1.true)
