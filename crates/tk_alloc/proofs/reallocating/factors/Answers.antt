use Rattle.std.proofs.Common.{◌≡◌, ◌<◌, ℕ, ℤ, pos, length, get_or, refl, ◌∙◌, arith, FitsSigned, to_z, of_z}
use Rattle.std.specs.Int.{w128}
use Rattle.std.proofs.lemmas.Int.{ints, to_z-of_z}
use Rattle.std.proofs.lemmas.List.{length-map}
use Rattle.tk_base.specs.Pairs.{objects_of}
use Rattle.tk_alloc.proofs.PartLemmas.{is_read, dealt_next, dealt_done, dealt_ascends}
use Rattle.tk_alloc.proofs.reallocating.factors.Goals as goal

pub new_factor-requires-clause-value : goal.new_factor-requires-clause-value
new_factor-requires-clause-value c =
    let fits : FitsSigned w128 c.at-value.result.1 = omega (arith, ints) in
    let within : c.loop-place.place < length (objects_of c.args.values.now) = omega (arith, c.len-place-end.ensures.value, length-map c.args.values.now (λ (p : ℕ × ℤ). p.0)) in
    let read = is_read c.args.values.now (objects_of c.args.values.now) c.loop-place.place c.at-value.result.0.0 c.at-value.result.1 (record { same = refl; small = c.requires.values }) c.at-value.ensures.ascends within c.at-value.ensures.value in
    rw (to_z-of_z w128 c.at-value.result.1 fits) read.small

pub loop-place-preserved : goal.loop-place-preserved
loop-place-preserved c =
    let border = to_z w128 (of_z w128 c.args.border) in
    let fits : FitsSigned w128 c.at-value.result.1 = omega (arith, ints) in
    let dealt : FitsSigned w128 c.deal-share.result = omega (arith, ints) in
    let small = c.requires.leeways c.loop-place.place (pos 0) (omega (arith, c.len-place-end.ensures.value, c.requires.count)) in
    let leeway : FitsSigned w128 (get_or c.args.leeways.now c.loop-place.place (pos 0)) = omega (arith, ints, small) in
    let new : FitsSigned w128 c.new_factor.result = omega (arith, ints) in
    let within : c.loop-place.place < length (objects_of c.args.values.now) = omega (arith, c.len-place-end.ensures.value, length-map c.args.values.now (λ (p : ℕ × ℤ). p.0)) in
    let read = is_read c.args.values.now (objects_of c.args.values.now) c.loop-place.place c.at-value.result.0.0 c.at-value.result.1 (record { same = refl; small = c.requires.values }) c.at-value.ensures.ascends within c.at-value.ensures.value in
    dealt_next c.args.values.now border c.args.weights.now c.args.p c.args.leeways.now c.loop-place.place c.at-value.result.0.0 c.at-value.result.1 c.deal-share.result c.new_factor.result
    c.loop-place.list c.push.new.self (omega (arith, c.len-place-end.ensures.value)) c.requires.count read
    (rw (c.new-participant.ensures.weights, c.new-participant.ensures.place, to_z-of_z w128 (get_or c.args.leeways.now c.loop-place.place (pos 0)) leeway) at c.deal-share.ensures.value)
    (rw (to_z-of_z w128 c.at-value.result.1 fits, to_z-of_z w128 c.deal-share.result dealt) at c.new_factor.ensures.value)
    (rw (to_z-of_z w128 c.new_factor.result new) at c.in_ok-push.ensures.ok) c.loop-place.invariant

pub unwrap-requires : goal.unwrap-requires
unwrap-requires c =
    let border = to_z w128 (of_z w128 c.args.border) in
    c.finish.ensures.ascends.1 (dealt_ascends c.args.values.now border c.args.weights.now c.args.p c.args.leeways.now c.loop-place.place c.loop-place.list (omega (arith, c.len-place-end.ensures.value)) c.requires.count c.len-place-end.ensures.ascends c.loop-place.invariant)

pub returns : goal.returns
returns c =
    let fits : FitsSigned w128 c.args.border = omega (arith, ints) in
    let border = to_z w128 (of_z w128 c.args.border) in
    let made : c.unwrap.result ≡ c.loop-place.list = rw c.unwrap.ensures at c.finish.ensures.ok in
    made
    ∙ rw (to_z-of_z w128 c.args.border fits) at (dealt_done c.args.values.now border c.args.weights.now c.args.p c.args.leeways.now c.loop-place.place c.loop-place.list (omega (arith, c.len-place-end.ensures.value)) c.requires.count c.loop-place.invariant)
