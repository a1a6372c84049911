use Rattle.std.proofs.Common.{◌≡◌, ◌≤◌, ◌^◌, ◌+◌, ℕ, ℤ, ◌+ℤ◌, List, get_or, unsigned_abs, take, arith, sym, ap, ◌∙◌}
use Rattle.std.specs.Prelude.{FitsSigned}
use Rattle.std.specs.Int.{w128}
use Rattle.std.proofs.lemmas.Int.{ints}
use Rattle.tk_input.specs.Logs.{sum_for, value_of}
use Rattle.tk_input.proofs.SignedLemmas.{add_fits, add_is}
use Rattle.tk_input.proofs.SumLemmas.{int_sum-zip_more, value_of-front}
use Rattle.tk_input.proofs.logs.sums.value_in.Goals as goal

-- the value with the part at hand
more : (c : goal.After-front_sum-value) → value_of (take (c.loop-f.f + 1) c.args.row.now) (take (c.loop-f.f + 1) c.args.places.now) c.args.obj.0 ≡ c.loop-f.value +ℤ c.front_sum-value.result
more c =
    let row = c.args.row.now in
    let places = c.args.places.now in
    let i = c.loop-f.f in
    let o = c.args.obj.0 in
    let h : List (ℕ × ℤ) × ℕ → ℤ = λ p. sum_for o (take p.1 p.0) in
    int_sum-zip_more h row places i c.index-row-f.result 0 c.loop-f-test.true (omega (arith, c.requires.places.shape, c.loop-f-test.true))
    ∙ ap (λ (z : ℤ). z +ℤ sum_for o (take (get_or places i 0) (get_or row i c.index-row-f.result))) (sym c.loop-f.invariant ∙ c.loop-f.value-is)
    ∙ ap (λ (part : List (ℕ × ℤ)). c.loop-f.value +ℤ sum_for o (take (get_or places i 0) part)) (sym c.index-row-f.is)
    ∙ ap (λ (n : ℕ). c.loop-f.value +ℤ sum_for o (take n c.index-row-f.result)) (sym c.at.ensures)
    ∙ ap (λ (z : ℤ). c.loop-f.value +ℤ z) (sym c.front_sum-value.ensures.value)

bound : (c : goal.After-front_sum-value) → unsigned_abs (value_of (take (c.loop-f.f + 1) c.args.row.now) (take (c.loop-f.f + 1) c.args.places.now) c.args.obj.0) ≤ 2 ^ 110
bound c = omega (arith, value_of-front c.args.row.now c.args.places.now c.args.obj.0 (c.loop-f.f + 1), c.requires.weight)

pub overflow_add-value : goal.overflow_add-value
overflow_add-value c =
    let fits : FitsSigned w128 c.front_sum-value.result = omega (arith, ints) in
    rw c.loop-f.value-is (add_fits c.loop-f.value c.front_sum-value.result _ (more c) fits (bound c))

pub loop-f-preserved : goal.loop-f-preserved
loop-f-preserved c =
    let fits : FitsSigned w128 c.front_sum-value.result = omega (arith, ints) in
    rw c.loop-f.value-is (add_is c.loop-f.value c.front_sum-value.result _ (more c) fits (bound c))

pub returns-clause-size : goal.returns-clause-size
returns-clause-size c =
    rw c.loop-f.invariant (omega (arith, value_of-front c.args.row.now c.args.places.now c.args.obj.0 c.loop-f.f, c.requires.weight))
