use Rattle.std.proofs.Common.{◌≡◌, ℕ, List, Some, Result, Ok, sym, subst, ap, ◌∙◌}
use Rattle.std.specs.Prelude.{IfOk, IfErr}
use Rattle.std.proofs.lemmas.Result.{err_from_is_err_and}
use Rattle.tk_input.specs.Catalog.{IsFault, catalog_from, next_name, names_of, some_names}
use Rattle.tk_input.specs.Records.{and_then, through}
use Rattle.tk_input.specs.declared.catalog.CatalogFault.{CatalogFault}
use Rattle.tk_input.proofs.NamesLemmas.{fault_ends}
use Rattle.tk_input.proofs.catalog.Catalog.from_names.Goals as goal

pub returns-in_err-take_list-clause-err : goal.returns-in_err-take_list-clause-err
returns-in_err-take_list-clause-err c =
    let given = err_from_is_err_and c.from_residual.result c.from_residual.ensures.1 in
    rw (given.1, given.2)
    (subst (λ (r : Result (List (List ℕ)) CatalogFault). IsFault c.in_err-take_list.field-0.0 (and_then some_names r)) (ap (λ ks. through (λ before name. next_name before (Some name)) (names_of ks) (names_of c.args.list.now)) c.with_hasher-names.ensures.empty)
    (fault_ends _ c.in_err-take_list.field-0.0 some_names c.in_err-take_list.ensures.err))

made : (c : goal.After-catalog_in) → catalog_from (names_of c.args.list.now) ≡ some_names (names_of c.take_list.new.names.keys)
made c = ap (λ ks. and_then some_names (through (λ before name. next_name before (Some name)) (names_of ks) (names_of c.args.list.now))) (sym c.with_hasher-names.ensures.empty) ∙ ap (and_then some_names) c.in_ok-take_list.ensures.ok

pub returns-clause-ok : goal.returns-clause-ok
returns-clause-ok c = subst (λ (r : Result (List (List ℕ)) CatalogFault). IfOk c.catalog_in.result (λ names. r ≡ Ok names)) (sym (made c)) c.catalog_in.ensures.ok

pub returns-clause-err : goal.returns-clause-err
returns-clause-err c = subst (λ (r : Result (List (List ℕ)) CatalogFault). IfErr c.catalog_in.result (λ e. IsFault e r)) (sym (made c)) c.catalog_in.ensures.err

pub returns-clause-within : goal.returns-clause-within
returns-clause-within c = c.catalog_in.ensures.within
