use Rattle.std.proofs.Common.{◌≡◌, ℕ, ℤ, ◌∙◌, List, [], length, get_or, take, ap, arith}
use Rattle.std.specs.List.{zip}
use Rattle.std.proofs.lemmas.List.{get_or_default, take_all}
use Rattle.std.proofs.lemmas.Slice.Zip.{length-zip}
use Rattle.tk_monitor.proofs.PartsLemmas.{left_more, left_count}
use Rattle.tk_monitor.proofs.parts.left_of.Goals as goal

pub overflow_add-left : goal.overflow_add-left
overflow_add-left c =
    let i = c.loop-i.i in
    let here : length c.index-parts-i.result ≡ length (get_or c.args.parts.now i []) = ap (λ (part : List (ℕ × ℤ)). length part) (c.index-parts-i.is ∙ get_or_default c.args.parts.now i c.index-parts-i.result [] c.loop-i-test.true) in
    omega (arith, here, c.len.ensures, c.requires.lengths i, c.requires.few, c.loop-i.invariant.few)

pub loop-i-preserved : goal.loop-i-preserved
loop-i-preserved c =
    let i = c.loop-i.i in
    let here : length c.index-parts-i.result ≡ length (get_or c.args.parts.now i []) = ap (λ (part : List (ℕ × ℤ)). length part) (c.index-parts-i.is ∙ get_or_default c.args.parts.now i c.index-parts-i.result [] c.loop-i-test.true) in
    let more = left_more c.args.parts.now c.args.next.now i c.loop-i-test.true (omega (arith, c.loop-i-test.true, c.requires.places.shape)) in
    record {
      left = omega (arith, more, c.loop-i.invariant.left, here, c.len.ensures);
      few = omega (arith, here, c.len.ensures, c.requires.lengths i, c.loop-i.invariant.few);
    }

pub returns : goal.returns
returns c =
    let all : take c.loop-i.i (zip c.args.parts.now c.args.next.now) ≡ zip c.args.parts.now c.args.next.now =
    take_all c.loop-i.i (zip c.args.parts.now c.args.next.now) (omega (arith, length-zip c.args.parts.now c.args.next.now, c.loop-i-test.false)) in
    record {
      value = c.loop-i.invariant.left ∙ ap left_count all;
      size = omega (arith, c.loop-i.invariant.few, c.loop-i.auto.i-end, c.requires.few);
    }
