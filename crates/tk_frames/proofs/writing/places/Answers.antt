use Rattle.std.proofs.Common.{◌<◌, ◌^◌, length, arith}
use Rattle.tk_frames.specs.Spelling.{no_object, place, counted}
use Rattle.tk_frames.proofs.FrontLemmas.{front_on}
use Rattle.tk_frames.proofs.WritingLemmas.{number_there, item_written, below_more, below_all, all_written}
use Rattle.tk_frames.proofs.writing.places.Goals as goal

pub loop-i-preserved : goal.loop-i-preserved
loop-i-preserved c =
    let xs = c.args.places.now in
    let i = c.loop-i.i in
    let within : i < length xs = omega (arith, c.len-len.ensures, c.loop-i-test.true) in
    let is = number_there xs i c.at.result within c.at.ensures in
    record {
      front = front_on _ _ _ c.loop-i.invariant.front c.number_u32.ensures.front;
      told = item_written no_object (place c.args.version) 0 xs i c.at.result _ _ _ within is c.in_ok-number_u32.ensures.bytes c.loop-i.invariant.told;
      small = below_more (λ p. p < 2 ^ 32) xs i c.at.result c.loop-i.invariant.small is c.number_u32.ensures.within;
    }

pub returns-clause-bytes : goal.returns-clause-bytes
unfolding counted
returns-clause-bytes c = all_written no_object (place c.args.version) 0 c.args.places.now c.loop-i.i _ _ (omega (arith, c.len-len.ensures, c.loop-i-test.false)) c.loop-i.invariant.told

pub returns-clause-numbers : goal.returns-clause-numbers
returns-clause-numbers c = below_all no_object (λ p. p < 2 ^ 32) 0 c.args.places.now (λ k x below there. c.loop-i.invariant.small k x (omega (arith, c.len-len.ensures, c.loop-i-test.false)) there)
