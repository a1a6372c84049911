use Rattle.std.proofs.Common.{◌≡◌, ◌∷◌, [], ◌++◌, ℕ, ℤ, Bool, List, length, sym, subst, ap, ◌∙◌, arith}
use Rattle.std.specs.Prelude.{All, MatchBool}
use Rattle.std.proofs.lemmas.List.Elements.{All-push}
use Rattle.std.proofs.lemmas.List.{length-append}
use Rattle.std.proofs.lemmas.Result.{err_from_is_err_and}
use Rattle.csv.specs.Records.{fields_of}
use Rattle.tk_input.specs.Records.{through}
use Rattle.tk_input.specs.Changes.{pair_of}
use Rattle.tk_input.specs.Log.{change_added}
use Rattle.tk_input.specs.Logs.{IsObject}
use Rattle.tk_input.proofs.LogLemmas.{change_next, log_fault}
use Rattle.tk_input.proofs.ThroughLemmas.{through-none, through-some}
use Rattle.tk_input.proofs.part.take_rows.Goals as goal

pub returns-in_err-change-clause-err : goal.returns-in_err-change-clause-err
returns-in_err-change-clause-err c =
    let loop = c.loop-row in
    let next : loop.rows ≡ fields_of c.next.new.row ∷ c.next.new.self =
    subst (λ (found : Bool). MatchBool found (loop.rows ≡ fields_of c.next.new.row ∷ c.next.new.self) (loop.rows ≡ [])) c.if-branch.true c.in_ok-next.ensures.found in
    let given = err_from_is_err_and c.from_residual-in_err-change.result c.from_residual-in_err-change.ensures.1 in
    rw (given.1, given.2)
    (log_fault c.args.names.now (through (change_added c.args.names.now) c.args.changes.now c.args.rows.now) loop.changes c.len.result (fields_of c.next.new.row) c.next.new.self loop.rows c.in_err-change.field-0.0 loop.invariant.same next c.len.ensures c.in_err-change.ensures.err)

pub loop-row-preserved : goal.loop-row-preserved
loop-row-preserved c =
    let loop = c.loop-row in
    let names = c.args.names.now in
    let change = pair_of c.in_ok-change.change in
    let pushed = c.in_ok-push.ensures.ok in
    let next : loop.rows ≡ fields_of c.next.new.row ∷ c.next.new.self =
    subst (λ (found : Bool). MatchBool found (loop.rows ≡ fields_of c.next.new.row ∷ c.next.new.self) (loop.rows ≡ [])) c.if-branch.true c.in_ok-next.ensures.found in
    record {
      same =
          ap (λ (all : List (ℕ × ℤ)). through (change_added names) all c.next.new.self) pushed
          ∙ sym (through-some (change_added names) loop.changes (loop.changes ++ change ∷ []) (fields_of c.next.new.row) c.next.new.self loop.rows next
          (change_next names loop.changes change c.len.result (fields_of c.next.new.row) c.len.ensures c.in_ok-change.ensures.ok))
          ∙ loop.invariant.same;
      few = omega (arith, c.len.ensures, c.in_ok-change.ensures.few, ap (λ (all : List (ℕ × ℤ)). length all) pushed, length-append loop.changes (change ∷ []));
      objects = subst (λ (all : List (ℕ × ℤ)). All (λ d. IsObject (length names) d.0) all) (sym pushed)
          (All-push (λ (d : ℕ × ℤ). IsObject (length names) d.0) loop.changes change loop.invariant.objects c.in_ok-change.ensures.object);
    }

pub returns-clause-ok : goal.returns-clause-ok
returns-clause-ok c =
    let loop = c.loop-row in
    let ended : loop.rows ≡ [] =
    subst (λ (found : Bool). MatchBool found (loop.rows ≡ fields_of c.next.new.row ∷ c.next.new.self) (loop.rows ≡ [])) c.if-branch.false c.in_ok-next.ensures.found in
    sym loop.invariant.same ∙ through-none (change_added c.args.names.now) loop.changes loop.rows ended

pub returns-clause-objects : goal.returns-clause-objects
returns-clause-objects c = c.loop-row.invariant.objects

pub returns-clause-most : goal.returns-clause-most
returns-clause-most c = c.loop-row.invariant.few
