use Rattle.std.proofs.Common.{◌≡◌, ◌≤◌, ℕ, ℤ, List, ◌+ℤ◌, ◌+◌, ◌^◌, unsigned_abs, length, take, get_or, pos, arith, subst, sym, ap, ◌∙◌}
use Rattle.std.specs.Prelude.{FitsSigned}
use Rattle.std.specs.Int.{w128}
use Rattle.std.proofs.lemmas.Int.{ints}
use Rattle.std.proofs.lemmas.Option.{get_or_from_slice_get}
use Rattle.tk_input.specs.Changes.{pair_of}
use Rattle.tk_input.specs.Logs.{sum_for, weight_for}
use Rattle.tk_input.proofs.SignedLemmas.{add_fits, add_is}
use Rattle.tk_input.proofs.SumLemmas.{by_at, sum_for-more, sum_for-size, weight_for-take}
use Rattle.tk_input.proofs.logs.sums.front_sum.Goals as goal

-- the sum after the change at hand
more : (c : goal.After-by_of-sum) → sum_for c.args.obj.0 (take (c.loop-i.i + 1) c.changes-changes.result.now) ≡ c.loop-i.sum +ℤ c.by_of-sum.result
more c =
    let changes = c.changes-changes.result.now in
    let i = c.loop-i.i in
    let blank : ℕ × ℤ = (0, pos 0) in
    let here = get_or_from_slice_get changes i (pair_of c.at.result) blank c.at.ensures in
    sum_for-more c.args.obj.0 changes i blank (omega (arith, c.requires.place, ap (λ (cs : List (ℕ × ℤ)). length cs) c.changes-changes.ensures))
    ∙ ap (λ (z : ℤ). z +ℤ by_at c.args.obj.0 (get_or changes i blank)) (sym c.loop-i.invariant ∙ c.loop-i.sum-is)
    ∙ ap (λ (p : ℕ × ℤ). c.loop-i.sum +ℤ by_at c.args.obj.0 p) here
    ∙ ap (λ (z : ℤ). c.loop-i.sum +ℤ z) (sym c.by_of-sum.ensures)

bound : (c : goal.After-by_of-sum) → unsigned_abs (sum_for c.args.obj.0 (take (c.loop-i.i + 1) c.changes-changes.result.now)) ≤ 2 ^ 110
bound c =
    let o = c.args.obj.0 in
    let changes = c.changes-changes.result.now in
    let weight = ap (λ (cs : List (ℕ × ℤ)). weight_for o cs) c.changes-changes.ensures in
    omega (arith, sum_for-size o (take (c.loop-i.i + 1) changes), weight_for-take o (c.loop-i.i + 1) changes, weight, c.requires.weight)

pub overflow_add-sum : goal.overflow_add-sum
overflow_add-sum c =
    let fits : FitsSigned w128 c.by_of-sum.result = omega (arith, ints) in
    rw c.loop-i.sum-is (add_fits c.loop-i.sum c.by_of-sum.result _ (more c) fits (bound c))

pub loop-i-preserved : goal.loop-i-preserved
loop-i-preserved c =
    let fits : FitsSigned w128 c.by_of-sum.result = omega (arith, ints) in
    rw c.loop-i.sum-is (add_is c.loop-i.sum c.by_of-sum.result _ (more c) fits (bound c))

pub returns : goal.returns
returns c =
    let o = c.args.obj.0 in
    let front = take c.args.place c.args.part.now in
    let whole : take c.loop-i.i c.changes-changes.result.now ≡ front = ap (λ (n : ℕ). take n c.changes-changes.result.now) (omega arith) ∙ ap (λ (cs : List (ℕ × ℤ)). take c.args.place cs) c.changes-changes.ensures in
    let value = c.loop-i.invariant ∙ ap (λ (cs : List (ℕ × ℤ)). sum_for o cs) whole in
    record {
      value = value;
      size = subst (λ (z : ℤ). unsigned_abs z ≤ 2 ^ 100) (sym value) (omega (arith, sum_for-size o front, weight_for-take o c.args.place c.args.part.now, c.requires.weight));
    }
