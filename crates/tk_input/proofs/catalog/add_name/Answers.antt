use Rattle.std.proofs.Common.{◌≡◌, ◌+◌, ℕ, Bool, true, false, List, ◌∷◌, [], ◌++◌, length, Ok, Err, bytes_eq, sym, ap, ◌∙◌, arith}
use Rattle.std.specs.Prelude.{if◌then◌else◌}
use Rattle.std.specs.List.{list_any}
use Rattle.std.proofs.lemmas.Result.{err_from_is_err_and}
use Rattle.tk_input.specs.Catalog.{names_of}
use Rattle.tk_input.specs.declared.catalog.CatalogFault.TheVariants.{Repeated}
use Rattle.tk_input.proofs.NamesLemmas.{any-names_of, fresh_is_taken, length-names_of, names_of-push, with_name-proper}
use Rattle.tk_input.proofs.catalog.add_name.Goals as goal

pub returns-then-contains-clause-err : goal.returns-then-contains-clause-err
returns-then-contains-clause-err c =
    let keys = c.args.names.now.keys in
    let names = names_of keys in
    let name = c.args.name.now in
    let again : list_any (λ n. bytes_eq name n) names ≡ true = any-names_of name keys ∙ sym c.contains.ensures ∙ c.if-contains.true in
    let number : length names + 1 ≡ c.len.result + 1 = omega (arith, length-names_of keys, c.len.ensures.len) in
    with_name-proper names name (sym c.is_name.ensures ∙ c.if-not-is_name.false)
    ∙ ap (λ (b : Bool). if b then Err (Repeated (length names + 1)) else Ok (names ++ name ∷ [])) again
    ∙ ap (λ (n : ℕ). Err (Repeated n)) number

pub returns-clause-ok : goal.returns-clause-ok
returns-clause-ok c =
    let keys = c.args.names.now.keys in
    let names = names_of keys in
    let name = c.args.name.now in
    let key = c.in_ok-from_slice.field-0 in
    let fresh : list_any (λ k. bytes_eq name k.items) keys ≡ false = sym c.contains.ensures ∙ c.if-contains.false in
    let added : c.insert.new.self.keys ≡ keys ++ key ∷ [] = c.in_ok-insert.ensures.keys ∙ ap (λ (b : Bool). if b then keys else keys ++ key ∷ []) (ap (λ (bytes : List ℕ). list_any (λ k. bytes_eq bytes k.items) keys) c.in_ok-from_slice.ensures.items ∙ fresh) in
    with_name-proper names name (sym c.is_name.ensures ∙ c.if-not-is_name.false)
    ∙ ap (λ (b : Bool). if b then Err (Repeated (length names + 1)) else Ok (names ++ name ∷ [])) (any-names_of name keys ∙ fresh)
    ∙ ap (λ (bytes : List ℕ). Ok (names ++ bytes ∷ [])) (sym c.in_ok-from_slice.ensures.items)
    ∙ ap (λ (all : List (List ℕ)). Ok all) (sym (names_of-push keys key) ∙ ap (λ ks. names_of ks) (sym added))

-- what is wanted memory for is a name that is taken
pub returns-in_err-from_slice-clause-err : goal.returns-in_err-from_slice-clause-err
returns-in_err-from_slice-clause-err c =
    let given = err_from_is_err_and c.from_residual.result c.from_residual.ensures.1 in
    rw (given.1, given.2)
    (fresh_is_taken c.args.names.now.keys c.args.name.now (sym c.is_name.ensures ∙ c.if-not-is_name.false) (sym c.contains.ensures ∙ c.if-contains.false))

pub returns-in_err-insert-clause-err : goal.returns-in_err-insert-clause-err
returns-in_err-insert-clause-err c =
    let given = err_from_is_err_and c.from_residual-in_err-insert.result c.from_residual-in_err-insert.ensures.1 in
    rw (given.1, given.2)
    (fresh_is_taken c.args.names.now.keys c.args.name.now (sym c.is_name.ensures ∙ c.if-not-is_name.false) (sym c.contains.ensures ∙ c.if-contains.false))
