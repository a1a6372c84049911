use Rattle.std.proofs.Common.{◌≡◌, ◌≤◌, ◌+◌, ℕ, ℤ, ◌+ℤ◌, List, [], length, get_or, take, arith, sym, ap, ◌∙◌}
use Rattle.std.specs.Prelude.{FitsSigned}
use Rattle.std.specs.Int.{w128}
use Rattle.std.proofs.lemmas.Int.{ints}
use Rattle.std.proofs.lemmas.List.{take_all}
use Rattle.tk_input.proofs.RowsLemmas.{get_or-logs_in, length-logs_in}
use Rattle.std.proofs.lemmas.Option.{get_or_from_slice_get}
use Rattle.tk_input.specs.Logs.{total, value_of}
use Rattle.tk_input.specs.Rows.{logs_in}
use Rattle.tk_input.proofs.SignedLemmas.{add_fits, add_is}
use Rattle.tk_input.proofs.SumLemmas.{int_sum-zip_more, total-front}
use Rattle.tk_input.proofs.logs.sums.total_in.Goals as goal

-- the total with the monitor at hand
more : (c : goal.After-value_in-total) → total (take (c.loop-j.j + 1) (logs_in c.args.rows.now)) c.args.obj.0 (take (c.loop-j.j + 1) c.args.cut.now) ≡ c.loop-j.total +ℤ c.value_in-total.result
more c =
    let logs = logs_in c.args.rows.now in
    let cut = c.args.cut.now in
    let i = c.loop-j.j in
    let o = c.args.obj.0 in
    let row = c.index-rows-j.result in
    let h : List (List (ℕ × ℤ)) × List ℕ → ℤ = λ p. value_of p.0 p.1 o in
    let parts : get_or logs i [] ≡ row.items = get_or-logs_in c.args.rows.now i row c.loop-j-test.true ∙ ap (λ r. r.items) (sym c.index-rows-j.is) in
    let places : get_or cut i [] ≡ c.at.result.now = get_or_from_slice_get cut i c.at.result.now [] c.at.ensures in
    int_sum-zip_more h logs cut i [] [] (omega (arith, length-logs_in c.args.rows.now, c.loop-j-test.true)) (omega (arith, c.requires.cut.shape, length-logs_in c.args.rows.now, c.loop-j-test.true))
    ∙ ap (λ (z : ℤ). z +ℤ value_of (get_or logs i []) (get_or cut i []) o) (sym c.loop-j.invariant ∙ c.loop-j.total-is)
    ∙ ap (λ (ps : List (List (ℕ × ℤ))). c.loop-j.total +ℤ value_of ps (get_or cut i []) o) (parts ∙ sym c.as_slice.ensures.value)
    ∙ ap (λ (ns : List ℕ). c.loop-j.total +ℤ value_of c.as_slice.result.now ns o) places
    ∙ ap (λ (z : ℤ). c.loop-j.total +ℤ z) (sym c.value_in-total.ensures.value)

pub overflow_add-total : goal.overflow_add-total
overflow_add-total c =
    let fits : FitsSigned w128 c.value_in-total.result = omega (arith, ints) in
    let bound = total-front (logs_in c.args.rows.now) c.args.cut.now c.args.obj.0 (c.loop-j.j + 1) (omega (arith, length-logs_in c.args.rows.now, c.requires.monitors)) (λ j within. c.requires.weights j [] within) in
    rw c.loop-j.total-is (add_fits c.loop-j.total c.value_in-total.result _ (more c) fits (omega (arith, bound)))

pub loop-j-preserved : goal.loop-j-preserved
loop-j-preserved c =
    let fits : FitsSigned w128 c.value_in-total.result = omega (arith, ints) in
    let bound = total-front (logs_in c.args.rows.now) c.args.cut.now c.args.obj.0 (c.loop-j.j + 1) (omega (arith, length-logs_in c.args.rows.now, c.requires.monitors)) (λ j within. c.requires.weights j [] within) in
    rw c.loop-j.total-is (add_is c.loop-j.total c.value_in-total.result _ (more c) fits (omega (arith, bound)))

pub returns : goal.returns
returns c =
    let logs = logs_in c.args.rows.now in
    let cut = c.args.cut.now in
    let all : length logs ≤ c.loop-j.j = omega (arith, length-logs_in c.args.rows.now, c.loop-j-test.false) in
    let bound = total-front logs cut c.args.obj.0 c.loop-j.j (omega (arith, length-logs_in c.args.rows.now, c.requires.monitors)) (λ j within. c.requires.weights j [] within) in
    record {
      value = c.loop-j.invariant
          ∙ ap (λ (ls : List (List (List (ℕ × ℤ)))). total ls c.args.obj.0 (take c.loop-j.j cut)) (take_all c.loop-j.j logs all)
          ∙ ap (λ (ns : List (List ℕ)). total logs c.args.obj.0 ns) (take_all c.loop-j.j cut (omega (arith, c.requires.cut.shape)));
      size = rw c.loop-j.invariant bound;
    }
