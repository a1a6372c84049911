use Rattle.std.proofs.Common.{◌≡◌, ◌∷◌, [], Bool, sym, subst, ◌∙◌}
use Rattle.std.specs.Prelude.{MatchBool}
use Rattle.std.proofs.lemmas.Bool.{eqb-false, eqb-true}
use Rattle.std.proofs.lemmas.Result.{err_from_is_err_and}
use Rattle.csv.specs.Records.{fields_of}
use Rattle.tk_multi.specs.Queries.{query_added}
use Rattle.tk_multi.proofs.QueryLemmas.{none_is, read_all, record_fault, some_is}
use Rattle.tk_multi.proofs.queries.Queries.read.Goals as goal
use Rattle.tk_input.proofs.ThroughLemmas.{through-some}

pub loop-list-preserved : goal.loop-list-preserved
loop-list-preserved c =
    let next : c.loop-list.rows ≡ fields_of c.next.new.row ∷ c.next.new.self =
    subst (λ (found : Bool). MatchBool found (c.loop-list.rows ≡ fields_of c.next.new.row ∷ c.next.new.self) (c.loop-list.rows ≡ [])) c.if-branch.true c.in_ok-next.ensures.found in
    record {
      same = sym (through-some query_added c.loop-list.list.items c.take_query.new.list.items (fields_of c.next.new.row) c.next.new.self c.loop-list.rows next c.in_ok-take_query.ensures.ok)
          ∙ c.loop-list.invariant.same;
      few = c.in_ok-take_query.ensures.few;
    }

pub returns-in_err-take_query-clause-err : goal.returns-in_err-take_query-clause-err
returns-in_err-take_query-clause-err c =
    let next : c.loop-list.rows ≡ fields_of c.next.new.row ∷ c.next.new.self =
    subst (λ (found : Bool). MatchBool found (c.loop-list.rows ≡ fields_of c.next.new.row ∷ c.next.new.self) (c.loop-list.rows ≡ [])) c.if-branch.true c.in_ok-next.ensures.found in
    let given = err_from_is_err_and c.from_residual-in_err-take_query.result c.from_residual-in_err-take_query.ensures.1 in
    rw (given.1, given.2)
    (record_fault c.args.bytes.now c.loop-list.list.items (fields_of c.next.new.row) c.next.new.self c.loop-list.rows c.in_err-take_query.field-0.0 c.loop-list.invariant.same next c.in_err-take_query.ensures.err)

pub returns-then-is_empty-clause-err : goal.returns-then-is_empty-clause-err
returns-then-is_empty-clause-err c =
    let ended : c.loop-list.rows ≡ [] =
    subst (λ (found : Bool). MatchBool found (c.loop-list.rows ≡ fields_of c.next.new.row ∷ c.next.new.self) (c.loop-list.rows ≡ [])) c.if-branch.false c.in_ok-next.ensures.found in
    read_all c.args.bytes.now c.loop-list.list.items c.loop-list.rows c.loop-list.invariant.same ended
    ∙ none_is c.loop-list.list.items (sym c.loop-list.list.ok.0 ∙ eqb-true c.loop-list.list.len 0 (sym c.is_empty.ensures ∙ c.if-is_empty.true))

pub returns-clause-ok : goal.returns-clause-ok
returns-clause-ok c =
    let ended : c.loop-list.rows ≡ [] =
    subst (λ (found : Bool). MatchBool found (c.loop-list.rows ≡ fields_of c.next.new.row ∷ c.next.new.self) (c.loop-list.rows ≡ [])) c.if-branch.false c.in_ok-next.ensures.found in
    read_all c.args.bytes.now c.loop-list.list.items c.loop-list.rows c.loop-list.invariant.same ended
    ∙ some_is c.loop-list.list.items (λ none. eqb-false c.loop-list.list.len 0 (sym c.is_empty.ensures ∙ c.if-is_empty.false) (c.loop-list.list.ok.0 ∙ none))
