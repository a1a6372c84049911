use Rattle.std.proofs.Common.{ℕ, ℤ, arith}
use Rattle.std.proofs.lemmas.Option.{get_or_from_slice_get}
use Rattle.tk_show.specs.Frames.{pair_text}
use Rattle.tk_show.proofs.ListLemmas.{more}
use Rattle.tk_show.proofs.words.push_pairs.Goals as goal

pub loop-i-preserved : goal.loop-i-preserved
loop-i-preserved c =
    let pair : ℕ × ℤ = (c.at.result.0.0, c.at.result.1) in
    more (pair_text c.args.names.now) _ _ _ c.args.pairs.now c.loop-i.i pair pair (omega arith)
    (get_or_from_slice_get c.args.pairs.now c.loop-i.i pair pair c.at.ensures.value) c.loop-i.invariant c.in_ok-push_pair.ensures
