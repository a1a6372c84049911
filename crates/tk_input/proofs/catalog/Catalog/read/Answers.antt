use Rattle.std.proofs.Common.{◌≡◌, ℕ, List, Result, Ok, sym, subst, ap, ◌∙◌}
use Rattle.std.specs.Prelude.{IfOk, IfErr}
use Rattle.std.proofs.lemmas.Result.{err_from_is_err_and}
use Rattle.tk_input.specs.Catalog.{IsFault, catalog_of, name_added, names_of, some_names}
use Rattle.tk_input.specs.Records.{and_then, records_in, through}
use Rattle.tk_input.specs.declared.catalog.CatalogFault.{CatalogFault}
use Rattle.tk_input.proofs.NamesLemmas.{fault_ends}
use Rattle.tk_input.proofs.catalog.Catalog.read.Goals as goal

pub returns-in_err-take_records-clause-err : goal.returns-in_err-take_records-clause-err
returns-in_err-take_records-clause-err c =
    let given = err_from_is_err_and c.from_residual.result c.from_residual.ensures.1 in
    rw (given.1, given.2)
    (subst (λ (r : Result (List (List ℕ)) CatalogFault). IsFault c.in_err-take_records.field-0.0 (and_then some_names r)) (ap (λ ks. through name_added (names_of ks) (records_in c.args.bytes.now)) c.with_hasher-names.ensures.empty)
    (fault_ends _ c.in_err-take_records.field-0.0 some_names c.in_err-take_records.ensures.err))

made : (c : goal.After-catalog_in) → catalog_of c.args.bytes.now ≡ some_names (names_of c.take_records.new.names.keys)
made c = ap (λ ks. and_then some_names (through name_added (names_of ks) (records_in c.args.bytes.now))) (sym c.with_hasher-names.ensures.empty) ∙ ap (and_then some_names) c.in_ok-take_records.ensures.ok

pub returns-clause-ok : goal.returns-clause-ok
returns-clause-ok c = subst (λ (r : Result (List (List ℕ)) CatalogFault). IfOk c.catalog_in.result (λ names. r ≡ Ok names)) (sym (made c)) c.catalog_in.ensures.ok

pub returns-clause-err : goal.returns-clause-err
returns-clause-err c = subst (λ (r : Result (List (List ℕ)) CatalogFault). IfErr c.catalog_in.result (λ e. IsFault e r)) (sym (made c)) c.catalog_in.ensures.err

pub returns-clause-within : goal.returns-clause-within
returns-clause-within c = c.catalog_in.ensures.within
