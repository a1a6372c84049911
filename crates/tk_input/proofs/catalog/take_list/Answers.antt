use Rattle.std.proofs.Common.{◌≡◌, ◌∷◌, ◌+◌, ℕ, List, Some, drop, sym, ap, ◌∙◌}
use Rattle.std.proofs.lemmas.Result.{err_from_is_err_and}
use Rattle.tk_input.specs.Catalog.{names_of, next_name}
use Rattle.tk_input.specs.Records.{through}
use Rattle.tk_input.proofs.NamesLemmas.{next_key, none_left, rows_fault}
use Rattle.tk_input.proofs.ThroughLemmas.{through-none, through-some}
use Rattle.tk_input.proofs.catalog.take_list.Goals as goal

pub loop-name-preserved : goal.loop-name-preserved
loop-name-preserved c =
    let old = names_of c.loop-name.names.keys in
    let new = names_of c.take_name.new.names.keys in
    let i = c.loop-name.name-index in
    let list = c.args.list.now in
    let next : names_of (drop i list) ≡ c.as_slice.result.now ∷ names_of (drop (i + 1) list) =
    next_key list i c.name-item.result c.loop-name-test.true c.name-item.is ∙ ap (λ (name : List ℕ). name ∷ names_of (drop (i + 1) list)) (sym c.as_slice.ensures.value) in
    record {
      same = sym (through-some (λ before name. next_name before (Some name)) old new c.as_slice.result.now (names_of (drop (i + 1) list)) (names_of (drop i list)) next c.in_ok-take_name.ensures.ok)
          ∙ c.loop-name.invariant.same;
      few = c.in_ok-take_name.ensures.few;
    }

pub returns-in_err-take_name-clause-err : goal.returns-in_err-take_name-clause-err
returns-in_err-take_name-clause-err c =
    let i = c.loop-name.name-index in
    let list = c.args.list.now in
    let next : names_of (drop i list) ≡ c.as_slice.result.now ∷ names_of (drop (i + 1) list) =
    next_key list i c.name-item.result c.loop-name-test.true c.name-item.is ∙ ap (λ (name : List ℕ). name ∷ names_of (drop (i + 1) list)) (sym c.as_slice.ensures.value) in
    let all = through (λ before name. next_name before (Some name)) (names_of c.args.names.now.keys) (names_of list) in
    let fault = rows_fault (λ before name. next_name before (Some name)) all (names_of c.loop-name.names.keys) c.as_slice.result.now (names_of (drop (i + 1) list)) (names_of (drop i list)) c.in_err-take_name.field-0.0 c.loop-name.invariant.same next c.in_err-take_name.ensures.err in
    let given = err_from_is_err_and c.from_residual.result c.from_residual.ensures.1 in
    rw (given.1, given.2) fault

pub returns-clause-ok : goal.returns-clause-ok
returns-clause-ok c =
    let left = names_of (drop c.loop-name.name-index c.args.list.now) in
    sym c.loop-name.invariant.same
    ∙ through-none (λ before name. next_name before (Some name)) (names_of c.loop-name.names.keys) left (none_left c.args.list.now c.loop-name.name-index c.loop-name-test.false)

pub returns-clause-few : goal.returns-clause-few
returns-clause-few c = c.loop-name.invariant.few
