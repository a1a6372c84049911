use Rattle.std.proofs.Common.{◌≡◌, pos, ◌∙◌, arith, if◌then◌else◌, FitsSigned, to_z, of_z}
use Rattle.std.specs.Int.{w128}
use Rattle.std.proofs.lemmas.Int.{ints, to_z-of_z}
use Rattle.tk_base.specs.Objects.{is_in}
use Rattle.tk_alloc.proofs.PartLemmas.{put_more, put_done, put_ascends}
use Rattle.tk_alloc.proofs.reallocating.own_values.Goals as goal

pub loop-place-preserved : goal.loop-place-preserved
loop-place-preserved c =
    let epsilon = to_z w128 (of_z w128 c.args.epsilon) in
    let fits : FitsSigned w128 c.own_value.result = omega (arith, ints) in
    put_more (λ o. if is_in c.args.members.now o then epsilon else pos 0) c.args.objects.now c.loop-place.place c.at.result.0.0 c.at.result.1 (to_z w128 (of_z w128 c.own_value.result))
    c.loop-place.list c.push.new.self (omega (arith, c.len-place-end.ensures.value)) c.at.ensures.value
    (to_z-of_z w128 c.own_value.result fits ∙ c.own_value.ensures) c.in_ok-push.ensures.ok c.loop-place.invariant

pub unwrap-requires : goal.unwrap-requires
unwrap-requires c =
    let epsilon = to_z w128 (of_z w128 c.args.epsilon) in
    c.finish.ensures.ascends.1 (put_ascends (λ o. if is_in c.args.members.now o then epsilon else pos 0) c.args.objects.now c.loop-place.place c.loop-place.list (omega (arith, c.len-place-end.ensures.value)) c.len-place-end.ensures.ascends c.loop-place.invariant)

pub returns : goal.returns
returns c =
    let fits : FitsSigned w128 c.args.epsilon = omega (arith, ints) in
    let epsilon = to_z w128 (of_z w128 c.args.epsilon) in
    let made : c.unwrap.result ≡ c.loop-place.list = rw c.unwrap.ensures at c.finish.ensures.ok in
    made
    ∙ rw (to_z-of_z w128 c.args.epsilon fits) at (put_done (λ o. if is_in c.args.members.now o then epsilon else pos 0) c.args.objects.now c.loop-place.place c.loop-place.list (omega (arith, c.len-place-end.ensures.value)) c.loop-place.invariant)
