use Rattle.std.proofs.Common.{◌≡◌, ℕ, ◌+◌, length, ◌++◌, ◌∷◌, [], ap, sym, ◌∙◌, arith}
use Rattle.std.proofs.lemmas.List.{length-append, length-map, map_push}
use Rattle.tk_input.specs.Judged.{Assigned, under, assigned_from}
use Rattle.tk_input.specs.Rows.{logs_in}
use Rattle.tk_input.proofs.AssignedLemmas.{assigned_push}
use Rattle.tk_trace.proofs.reading.logs.assigned.Goals as goal

pub loop-row-preserved : goal.loop-row-preserved
loop-row-preserved c =
    let before = logs_in c.loop-row.yielded in
    let row = c.in-Some.row.items in
    let mon_is : c.loop-row.mon ≡ 1 + length before = omega (arith, c.loop-row.invariant.next, length-map c.loop-row.yielded (λ row. row.items)) in
    record {
      listed = c.in_ok-append_row.ensures
          ∙ ap (λ (xs : Assigned). xs ++ under c.loop-row.mon row) c.loop-row.invariant.listed
          ∙ ap (λ (n : ℕ). assigned_from 1 before ++ under n row) mon_is
          ∙ sym (assigned_push 1 before row)
          ∙ ap (assigned_from 1) (sym (map_push _ c.loop-row.yielded c.in-Some.row));
      next = omega (arith, c.loop-row.invariant.next, length-append c.loop-row.yielded (c.in-Some.row ∷ []));
    }
