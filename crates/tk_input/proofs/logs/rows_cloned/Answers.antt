use Rattle.std.proofs.Common.{◌∷◌, [], ◌++◌, ℕ, ℤ, List, take, sym, ap, ◌∙◌, arith}
use Rattle.std.proofs.lemmas.List.{map-append, take_more}
use Rattle.tk_input.specs.Rows.{logs_in}
use Rattle.tk_input.proofs.logs.rows_cloned.Goals as goal

pub loop-row-preserved : goal.loop-row-preserved
loop-row-preserved c =
    let rows = c.args.rows.now in
    let i = c.loop-row.row-index in
    let clone = c.in_ok-clones_of.field-0 in
    record {
      same = ap (λ all. logs_in all) c.push_reserved.ensures.items
          ∙ map-append (λ row. row.items) c.loop-row.clones.items (clone ∷ [])
          ∙ ap (λ (logs : List (List (List (ℕ × ℤ)))). logs ++ clone.items ∷ []) c.loop-row.invariant.same
          ∙ ap (λ (parts : List (List (ℕ × ℤ))). logs_in (take i rows) ++ parts ∷ []) (c.in_ok-clones_of.ensures ∙ c.as_slice.ensures.value)
          ∙ sym (map-append (λ row. row.items) (take i rows) (c.row-item.result ∷ []))
          ∙ ap (λ all. logs_in all) (sym (take_more rows i c.row-item.result c.loop-row-test.true ∙ ap (λ row. take i rows ++ row ∷ []) (sym c.row-item.is)));
      len = omega (arith, c.push_reserved.ensures.len, c.loop-row.invariant.len);
      room = omega (arith, c.push_reserved.ensures.capacity, c.loop-row.invariant.room);
    }
