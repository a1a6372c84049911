use Rattle.std.proofs.Common.{◌≡◌, ℕ, List, length, sym, subst, ◌∙◌, arith}
use Rattle.csv.specs.Records.{fields_of}
use Rattle.tk_multi.specs.Queries.{IsReadAs, query_in}
use Rattle.tk_multi.proofs.QueryLemmas.{four_fields, has_field}
use Rattle.tk_multi.proofs.queries.query_of.Goals as goal

pub returns-in_err-get : goal.returns-in_err-get
returns-in_err-get c =
    let four : length (fields_of c.args.row.now) ≡ 4 = sym c.len.ensures ∙ c.if-len-ne4.false in
    absurd (has_field (fields_of c.args.row.now) 0 (omega (arith, four)) c.in_err-get.ensures.value)

pub returns-in_err-get-2 : goal.returns-in_err-get-2
returns-in_err-get-2 c =
    let four : length (fields_of c.args.row.now) ≡ 4 = sym c.len.ensures ∙ c.if-len-ne4.false in
    absurd (has_field (fields_of c.args.row.now) 1 (omega (arith, four)) c.in_err-get-2.ensures.value)

pub returns-in_err-get-3 : goal.returns-in_err-get-3
returns-in_err-get-3 c =
    let four : length (fields_of c.args.row.now) ≡ 4 = sym c.len.ensures ∙ c.if-len-ne4.false in
    absurd (has_field (fields_of c.args.row.now) 2 (omega (arith, four)) c.in_err-get-3.ensures.value)

pub returns-in_err-get-4 : goal.returns-in_err-get-4
returns-in_err-get-4 c =
    let four : length (fields_of c.args.row.now) ≡ 4 = sym c.len.ensures ∙ c.if-len-ne4.false in
    absurd (has_field (fields_of c.args.row.now) 3 (omega (arith, four)) c.in_err-get-4.ensures.value)

pub returns : goal.returns
returns c =
    let four : length (fields_of c.args.row.now) ≡ 4 = sym c.len.ensures ∙ c.if-len-ne4.false in
    subst (λ (fields : List (List ℕ)). IsReadAs c.query_with.result (query_in fields))
    (sym (four_fields (fields_of c.args.row.now) c.in_ok-get.field-0.now c.in_ok-get-2.field-0.now c.in_ok-get-3.field-0.now c.in_ok-get-4.field-0.now four
    c.in_ok-get.ensures.value c.in_ok-get-2.ensures.value c.in_ok-get-3.ensures.value c.in_ok-get-4.ensures.value))
    c.query_with.ensures
