use Rattle.std.proofs.Common.{◌≡◌, ap, ◌∙◌, arith, FitsSigned, to_z, of_z}
use Rattle.std.specs.Int.{w128}
use Rattle.std.proofs.lemmas.Int.{ints, to_z-of_z}
use Rattle.tk_alloc.specs.Rounds.{total}
use Rattle.tk_alloc.proofs.PartLemmas.{object_read, put_more, put_done, put_ascends}
use Rattle.tk_alloc.proofs.wide_round.totals.Goals as goal

pub loop-place-preserved : goal.loop-place-preserved
loop-place-preserved c =
    let fits : FitsSigned w128 c.total.result = omega (arith, ints) in
    put_more (total c.args.reports.now) c.args.objects.now c.loop-place.place c.at.result.0.0 c.at.result.1 (to_z w128 (of_z w128 c.total.result))
    c.loop-place.list c.push.new.self (omega (arith, c.len-place-end.ensures.value)) c.at.ensures.value
    (to_z-of_z w128 c.total.result fits ∙ c.total.ensures ∙ ap (total c.args.reports.now) (object_read c.args.objects.now c.loop-place.place c.at.result.0.0 c.at.result.1 (omega (arith, c.len-place-end.ensures.value)) c.at.ensures.value)) c.in_ok-push.ensures.ok c.loop-place.invariant

pub unwrap-requires : goal.unwrap-requires
unwrap-requires c =
    c.finish.ensures.ascends.1 (put_ascends (total c.args.reports.now) c.args.objects.now c.loop-place.place c.loop-place.list (omega (arith, c.len-place-end.ensures.value)) c.len-place-end.ensures.ascends c.loop-place.invariant)

pub returns : goal.returns
returns c =
    let made : c.unwrap.result ≡ c.loop-place.list = rw c.unwrap.ensures at c.finish.ensures.ok in
    made
    ∙ (put_done (total c.args.reports.now) c.args.objects.now c.loop-place.place c.loop-place.list (omega (arith, c.len-place-end.ensures.value)) c.loop-place.invariant)
