use Rattle.std.proofs.Common.{◌≡◌, ◌∷◌, [], ℕ, Bool, List, Ok, Option, sym, subst, ap, ◌∙◌}
use Rattle.std.specs.Prelude.{MatchBool}
use Rattle.std.proofs.lemmas.Result.{err_from_is_err_and}
use Rattle.csv.specs.Records.{fields_of}
use Rattle.tk_input.specs.Catalog.{IsNameFault, name_added, names_of, next_name}
use Rattle.tk_input.specs.Records.{through}
use Rattle.tk_input.proofs.NamesLemmas.{rows_fault}
use Rattle.tk_input.proofs.ThroughLemmas.{through-none, through-some}
use Rattle.tk_input.proofs.catalog.take_rows.Goals as goal

pub loop-names-preserved : goal.loop-names-preserved
loop-names-preserved c =
    let old = names_of c.loop-names.names.keys in
    let new = names_of c.take_name.new.names.keys in
    let next : c.loop-names.rows ≡ fields_of c.next.new.row ∷ c.next.new.self =
    subst (λ (found : Bool). MatchBool found (c.loop-names.rows ≡ fields_of c.next.new.row ∷ c.next.new.self) (c.loop-names.rows ≡ [])) c.if-branch.true c.in_ok-next.ensures.found in
    let added : name_added old (fields_of c.next.new.row) ≡ Ok new = ap (λ (name : Option (List ℕ)). next_name old name) (sym c.only_field.ensures) ∙ c.in_ok-take_name.ensures.ok in
    record {
      same = sym (through-some name_added old new (fields_of c.next.new.row) c.next.new.self c.loop-names.rows next added) ∙ c.loop-names.invariant.same;
      few = c.in_ok-take_name.ensures.few;
    }

pub returns-in_err-take_name-clause-err : goal.returns-in_err-take_name-clause-err
returns-in_err-take_name-clause-err c =
    let old = names_of c.loop-names.names.keys in
    let next : c.loop-names.rows ≡ fields_of c.next.new.row ∷ c.next.new.self =
    subst (λ (found : Bool). MatchBool found (c.loop-names.rows ≡ fields_of c.next.new.row ∷ c.next.new.self) (c.loop-names.rows ≡ [])) c.if-branch.true c.in_ok-next.ensures.found in
    let is : IsNameFault c.in_err-take_name.field-0.0 (name_added old (fields_of c.next.new.row)) =
    subst (λ (name : Option (List ℕ)). IsNameFault c.in_err-take_name.field-0.0 (next_name old name)) c.only_field.ensures c.in_err-take_name.ensures.err in
    let all = through name_added (names_of c.args.names.now.keys) c.args.rows.now in
    let fault = rows_fault name_added all old (fields_of c.next.new.row) c.next.new.self c.loop-names.rows c.in_err-take_name.field-0.0 c.loop-names.invariant.same next is in
    let given = err_from_is_err_and c.from_residual-in_err-take_name.result c.from_residual-in_err-take_name.ensures.1 in
    rw (given.1, given.2) fault

pub returns-clause-ok : goal.returns-clause-ok
returns-clause-ok c =
    let ended : c.loop-names.rows ≡ [] =
    subst (λ (found : Bool). MatchBool found (c.loop-names.rows ≡ fields_of c.next.new.row ∷ c.next.new.self) (c.loop-names.rows ≡ [])) c.if-branch.false c.in_ok-next.ensures.found in
    sym c.loop-names.invariant.same ∙ through-none name_added (names_of c.loop-names.names.keys) c.loop-names.rows ended

pub returns-clause-few : goal.returns-clause-few
returns-clause-few c = c.loop-names.invariant.few
