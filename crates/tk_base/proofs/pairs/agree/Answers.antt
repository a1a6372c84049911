use Rattle.std.proofs.Common.{◌≡◌, ◌∙◌, ℕ, ℤ, Some, ap}
use Rattle.tk_base.proofs.EqualLemmas.{same_pair}
use Rattle.tk_base.proofs.PairsLemmas.{same_one_more}
use Rattle.tk_base.proofs.pairs.agree.Goals as goal

pub loop-i-preserved : goal.loop-i-preserved
loop-i-preserved c =
    let p : ℕ × ℤ = (c.at.result.0.0, c.at.result.1) in
    let q : ℕ × ℤ = (c.at-in-loop-i.result.0.0, c.at-in-loop-i.result.1) in
    let same : p ≡ q = same_pair p q c.if-ne.ensures in
    same_one_more c.args.left.now c.args.right.now c.loop-i.i q
    (c.at.ensures.value ∙ ap (λ (r : ℕ × ℤ). Some r) same) c.at-in-loop-i.ensures.value c.loop-i.invariant
