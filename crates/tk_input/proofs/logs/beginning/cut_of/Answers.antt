use Rattle.std.proofs.Common.{◌∷◌, [], ◌++◌, ℕ, ℤ, List, map, take, sym, ap, ◌∙◌, arith}
use Rattle.std.proofs.lemmas.List.{map-append, take_more}
use Rattle.tk_input.specs.Rows.{logs_in}
use Rattle.tk_input.proofs.logs.beginning.cut_of.Goals as goal

pub loop-row-preserved : goal.loop-row-preserved
loop-row-preserved c =
    let rows = c.args.rows.now in
    let i = c.loop-row.row-index in
    let front = logs_in (take i rows) in
    let none : List (List (ℕ × ℤ)) → List ℕ = λ parts. map (λ part. 0) parts in
    record {
      same = c.push_reserved.ensures.items
          ∙ ap (λ (cut : List (List ℕ)). cut ++ c.in_ok-places_of.field-0 ∷ []) c.loop-row.invariant.same
          ∙ ap (λ (places : List ℕ). map none front ++ places ∷ []) (c.in_ok-places_of.ensures ∙ ap none c.as_slice.ensures.value)
          ∙ sym (map-append none front (c.row-item.result.items ∷ []))
          ∙ ap (λ (logs : List (List (List (ℕ × ℤ)))). map none logs) (sym (map-append (λ row. row.items) (take i rows) (c.row-item.result ∷ [])))
          ∙ ap (λ all. map none (logs_in all)) (sym (take_more rows i c.row-item.result c.loop-row-test.true ∙ ap (λ row. take i rows ++ row ∷ []) (sym c.row-item.is)));
      len = omega (arith, c.push_reserved.ensures.len, c.loop-row.invariant.len);
      room = omega (arith, c.push_reserved.ensures.capacity, c.loop-row.invariant.room);
    }
