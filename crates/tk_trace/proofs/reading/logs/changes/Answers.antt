use Rattle.std.proofs.Common.{◌≡◌, ◌++◌, ◌∷◌, []}
use Rattle.std.proofs.lemmas.Result.{err_from_is_err_and}
use Rattle.tk_input.specs.Changes.{pair_of}
use Rattle.tk_trace.specs.Reading.{change_at, times_at}
use Rattle.tk_trace.proofs.Loop.{ends, goes_on, is_done}
use Rattle.tk_trace.proofs.reading.logs.changes.Goals as goal

pub returns-in_err-item : goal.returns-in_err-item
returns-in_err-item c =
    let p = err_from_is_err_and c.from_residual.result c.from_residual.ensures.1 in
    rw (p.1, p.2) (ends c.in_err-item.field-0.0 (change_at c.args.objects) c.loop.list c.args.count c.loop.counter c.loop.rest.now (times_at (change_at c.args.objects) c.args.count c.args.bytes.now) c.loop-test.true c.in_err-item.ensures c.loop.invariant)

pub loop-preserved : goal.loop-preserved
loop-preserved c =
    let more : c.push.new.self ≡ c.loop.list ++ pair_of c.in_ok-item.item ∷ [] = c.in_ok-push.ensures.ok in
    rw more (goes_on (change_at c.args.objects) c.loop.list c.args.count c.loop.counter c.loop.rest.now (pair_of c.in_ok-item.item) c.in_ok-item.after.now (times_at (change_at c.args.objects) c.args.count c.args.bytes.now) c.loop-test.true c.in_ok-item.ensures c.loop.invariant)

pub returns : goal.returns
returns c = rw c.shrink_to_fit.ensures (is_done (change_at c.args.objects) c.loop.list c.args.count c.loop.counter c.loop.rest.now (times_at (change_at c.args.objects) c.args.count c.args.bytes.now) c.loop-test.false c.loop.invariant)
