use Rattle.std.proofs.Common.{◌∷◌, [], ℕ, ℤ, List, length, Ok, sym, ap, subst, ◌∙◌, arith}
use Rattle.std.specs.Prelude.{All}
use Rattle.std.proofs.lemmas.Bool.{eqb-true}
use Rattle.std.proofs.lemmas.List.{length-append}
use Rattle.std.proofs.lemmas.List.Elements.{All-push}
use Rattle.std.proofs.lemmas.Result.{err_from_is_err_and}
use Rattle.tk_base.proofs.DigitsLemmas.{eqb_some}
use Rattle.tk_input.specs.Changes.{pair_of}
use Rattle.tk_input.specs.Log.{change_added, lent_fields}
use Rattle.tk_input.specs.Logs.{IsObject}
use Rattle.tk_input.proofs.PlainLogLemmas.{empty_line, filled_fault, filled_taken}
use Rattle.tk_input.proofs.part.take_line.Goals as goal

pub returns-then-is_empty-clause-ok : goal.returns-then-is_empty-clause-ok
returns-then-is_empty-clause-ok c =
    empty_line (change_added c.args.names.now) c.args.changes.now c.args.line.now (eqb-true (length c.args.line.now) 0 (sym c.is_empty.ensures ∙ c.if-is_empty.true))

pub returns-in_err-change-clause-err : goal.returns-in_err-change-clause-err
returns-in_err-change-clause-err c =
    let some = eqb_some (length c.args.line.now) (sym c.is_empty.ensures ∙ c.if-is_empty.false) in
    let given = err_from_is_err_and c.from_residual.result c.from_residual.ensures.1 in
    rw (given.1, given.2)
    (filled_fault c.args.names.now c.args.changes.now c.len.result c.args.line.now (lent_fields c.both_in.result) c.in_err-change.field-0.0 some c.len.ensures c.both_in.ensures c.in_err-change.ensures.err)

pub returns-clause-ok : goal.returns-clause-ok
returns-clause-ok c =
    let some = eqb_some (length c.args.line.now) (sym c.is_empty.ensures ∙ c.if-is_empty.false) in
    filled_taken c.args.names.now c.args.changes.now (pair_of c.in_ok-change.change) c.len.result c.args.line.now (lent_fields c.both_in.result) some c.len.ensures c.both_in.ensures c.in_ok-change.ensures.ok
    ∙ ap Ok (sym c.in_ok-push.ensures.ok)

pub returns-clause-objects : goal.returns-clause-objects
returns-clause-objects c =
    let change = pair_of c.in_ok-change.change in
    subst (λ (all : List (ℕ × ℤ)). All (λ d. IsObject (length c.args.names.now) d.0) all) (sym c.in_ok-push.ensures.ok)
    (All-push (λ (d : ℕ × ℤ). IsObject (length c.args.names.now) d.0) c.args.changes.now change c.requires.objects c.in_ok-change.ensures.object)

pub returns-clause-most : goal.returns-clause-most
returns-clause-most c =
    omega (arith, c.len.ensures, c.in_ok-change.ensures.few, ap (λ (all : List (ℕ × ℤ)). length all) c.in_ok-push.ensures.ok, length-append c.args.changes.now (pair_of c.in_ok-change.change ∷ []))
