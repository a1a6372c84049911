use Rattle.std.proofs.Common.{length, arith, ◌∙◌}
use Rattle.tk_input.specs.Catalog.{names_of}
use Rattle.tk_input.proofs.NamesLemmas.{length-names_of, none_is, not_none, some_is}
use Rattle.tk_input.proofs.catalog.catalog_in.Goals as goal

pub returns-then-is_empty-clause-err : goal.returns-then-is_empty-clause-err
returns-then-is_empty-clause-err c =
    none_is (names_of c.args.names.keys) (length-names_of c.args.names.keys ∙ c.is_empty.ensures.0 c.if-is_empty.true)

pub returns-clause-ok : goal.returns-clause-ok
returns-clause-ok c =
    let keys = c.args.names.keys in
    some_is (names_of keys) (omega (arith, length-names_of keys, not_none (length keys) c.is_empty.result c.is_empty.ensures.1 c.if-is_empty.false))
