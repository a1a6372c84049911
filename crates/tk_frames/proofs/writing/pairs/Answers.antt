use Rattle.std.proofs.Common.{rules, ◌<◌, ◌^◌, length, arith}
use Rattle.std.proofs.lemmas.Int.{to_z-of_z}
use Rattle.std.specs.Int.{w128}
use Rattle.std.specs.Int.RustNames.{FitsSigned}
use Rattle.tk_frames.specs.Spelling.{pair_object, pair, PairAbove, counted, in_turn}
use Rattle.tk_frames.proofs.AscentLemmas.{pairs_in_turn}
use Rattle.tk_frames.proofs.FrontLemmas.{front_on}
use Rattle.tk_frames.proofs.WritingLemmas.{count_written, item_written, facts_left, below_more, below_all, facts_both, all_written}
use Rattle.tk_frames.proofs.writing.pairs.Goals as goal

pub loop-i-init : goal.loop-i-init
loop-i-init c = record {
  front = c.count.ensures.front;
  told = count_written c.args.version c.len-len.result c.args.pairs.now c.args.out.now.items c.count.new.out.items (in_turn pair_object (pair c.args.version) 0 c.args.pairs.now) c.len-len.ensures.value c.in_ok-count.ensures.bytes;
  up = pairs_in_turn c.args.pairs.now c.len-len.ensures.ascends;
  small = λ k x none there. absurd (omega arith);
}

pub pair-requires : goal.pair-requires
pair-requires c =
    let xs = c.args.pairs.now in
    let within : c.loop-i.i < length xs = omega (arith, c.len-len.ensures.value, c.loop-i-test.true) in
    let is = c.at-under.ensures.value in
    let up = facts_left pair_object (λ b p. b < p.0) c.loop-i.before xs c.loop-i.i (c.at-under.result.0.0, c.at-under.result.1) within is c.loop-i.invariant.up in
    omega (arith, up.0)

pub loop-i-preserved : goal.loop-i-preserved
loop-i-preserved c =
    let xs = c.args.pairs.now in
    let within : c.loop-i.i < length xs = omega (arith, c.len-len.ensures.value, c.loop-i-test.true) in
    let is = c.at-under.ensures.value in
    let fits : FitsSigned w128 c.at-under.result.1 = search rules in
    let h = c.at-under.type_inv in
    let same = to_z-of_z w128 c.at-under.result.1 fits in
    record {
      front = front_on _ _ _ c.loop-i.invariant.front c.pair.ensures.front;
      told = item_written pair_object (pair c.args.version) c.loop-i.before xs c.loop-i.i (c.at-under.result.0.0, c.at-under.result.1) _ _ _ within is (rw same at c.in_ok-pair.ensures.bytes) c.loop-i.invariant.told;
      up = (facts_left pair_object (λ b p. b < p.0) c.loop-i.before xs c.loop-i.i (c.at-under.result.0.0, c.at-under.result.1) within is c.loop-i.invariant.up).1;
      small = below_more (λ p. (p.0 < 2 ^ 32) × FitsSigned w128 p.1) xs c.loop-i.i (c.at-under.result.0.0, c.at-under.result.1) c.loop-i.invariant.small is (c.pair.ensures.within, fits);
    }

pub returns-clause-bytes : goal.returns-clause-bytes
unfolding counted
returns-clause-bytes c = all_written pair_object (pair c.args.version) c.loop-i.before c.args.pairs.now c.loop-i.i _ _ (omega (arith, c.len-len.ensures.value, c.loop-i-test.false)) c.loop-i.invariant.told

pub returns-clause-objects : goal.returns-clause-objects
returns-clause-objects c =
    facts_both pair_object (λ b p. b < p.0) (λ b p. (p.0 < 2 ^ 32) × FitsSigned w128 p.1) PairAbove (λ b p up small. ((up, small.0), small.1)) 0 c.args.pairs.now
    (pairs_in_turn c.args.pairs.now c.len-len.ensures.ascends)
    (below_all pair_object (λ p. (p.0 < 2 ^ 32) × FitsSigned w128 p.1) 0 c.args.pairs.now (λ k x below there. c.loop-i.invariant.small k x (omega (arith, c.len-len.ensures.value, c.loop-i-test.false)) there))
