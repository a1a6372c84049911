use Rattle.std.proofs.Common.{◌+◌, ℕ, ℤ, pos, arith, ap}
use Rattle.std.proofs.lemmas.Option.{get_or_from_slice_get}
use Rattle.tk_input.specs.Changes.{pair_of}
use Rattle.tk_input.specs.Rows.{size_at}
use Rattle.tk_input.proofs.SumLemmas.{weight_for-more}
use Rattle.tk_input.proofs.logs.weights.weigh.Goals as goal

pub loop-i-preserved : goal.loop-i-preserved
loop-i-preserved c = λ k within.
    let changes = c.args.changes.now in
    let i = c.loop-i.i in
    let blank : ℕ × ℤ = (0, pos 0) in
    let more = weight_for-more (k + 1) changes i blank (omega (arith, c.len-i-end.ensures)) in
    let here = ap (λ (p : ℕ × ℤ). size_at (k + 1) p) (get_or_from_slice_get changes i (pair_of c.at.result) blank c.at.ensures) in
    omega (arith, more, here, c.add_weight.ensures k within, c.loop-i.invariant k (omega arith))
