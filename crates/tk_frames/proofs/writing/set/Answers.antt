use Rattle.std.proofs.Common.{◌<◌, ◌^◌, length, arith}
use Rattle.tk_frames.specs.Spelling.{object_itself, object, Above, counted, in_turn}
use Rattle.tk_frames.proofs.AscentLemmas.{objects_in_turn}
use Rattle.tk_frames.proofs.FrontLemmas.{front_on}
use Rattle.tk_frames.proofs.WritingLemmas.{number_there, count_written, item_written, facts_left, below_more, below_all, facts_both, all_written}
use Rattle.tk_frames.proofs.writing.set.Goals as goal

pub loop-i-init : goal.loop-i-init
loop-i-init c = record {
  front = c.count.ensures.front;
  told = count_written c.args.version c.len-len.result c.args.set.now c.args.out.now.items c.count.new.out.items (in_turn object_itself (object c.args.version) 0 c.args.set.now) c.len-len.ensures.value c.in_ok-count.ensures.bytes;
  up = objects_in_turn c.args.set.now c.len-len.ensures.ascends;
  small = λ k x none there. absurd (omega arith);
}

pub object-requires : goal.object-requires
object-requires c =
    let xs = c.args.set.now in
    let within : c.loop-i.i < length xs = omega (arith, c.len-len.ensures.value, c.loop-i-test.true) in
    let is = number_there xs c.loop-i.i c.at-value.result.0 within c.at-value.ensures.value in
    let up = facts_left object_itself (λ b x. b < x) c.loop-i.before xs c.loop-i.i c.at-value.result.0 within is c.loop-i.invariant.up in
    omega (arith, up.0)

pub loop-i-preserved : goal.loop-i-preserved
loop-i-preserved c =
    let xs = c.args.set.now in
    let within : c.loop-i.i < length xs = omega (arith, c.len-len.ensures.value, c.loop-i-test.true) in
    let is = number_there xs c.loop-i.i c.at-value.result.0 within c.at-value.ensures.value in
    record {
      front = front_on _ _ _ c.loop-i.invariant.front c.object.ensures.front;
      told = item_written object_itself (object c.args.version) c.loop-i.before xs c.loop-i.i c.at-value.result.0 _ _ _ within is c.in_ok-object.ensures.bytes c.loop-i.invariant.told;
      up = (facts_left object_itself (λ b x. b < x) c.loop-i.before xs c.loop-i.i c.at-value.result.0 within is c.loop-i.invariant.up).1;
      small = below_more (λ o. o < 2 ^ 32) xs c.loop-i.i c.at-value.result.0 c.loop-i.invariant.small is c.object.ensures.within;
    }

pub returns-clause-bytes : goal.returns-clause-bytes
unfolding counted
returns-clause-bytes c = all_written object_itself (object c.args.version) c.loop-i.before c.args.set.now c.loop-i.i _ _ (omega (arith, c.len-len.ensures.value, c.loop-i-test.false)) c.loop-i.invariant.told

pub returns-clause-objects : goal.returns-clause-objects
returns-clause-objects c =
    facts_both object_itself (λ b x. b < x) (λ b x. x < 2 ^ 32) Above (λ b x up small. (up, small)) 0 c.args.set.now
    (objects_in_turn c.args.set.now c.len-len.ensures.ascends)
    (below_all object_itself (λ o. o < 2 ^ 32) 0 c.args.set.now (λ k x below there. c.loop-i.invariant.small k x (omega (arith, c.len-len.ensures.value, c.loop-i-test.false)) there))
