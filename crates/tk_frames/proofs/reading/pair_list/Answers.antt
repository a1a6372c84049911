use Rattle.std.proofs.Common.{◌≡◌, ◌++◌, ◌∷◌, [], FitsSigned, arith}
use Rattle.std.specs.Int.{w128}
use Rattle.std.proofs.lemmas.Int.{ints, to_z-of_z}
use Rattle.std.proofs.lemmas.Result.{err_from_is_err_and}
use Rattle.tk_frames.specs.Spelling.{pair_object}
use Rattle.tk_frames.specs.Reading.{pair_at, items_at}
use Rattle.tk_frames.proofs.Loop.{goes_on, ends, is_done}
use Rattle.tk_frames.proofs.reading.pair_list.Goals as goal

pub returns-in_err-item : goal.returns-in_err-item
returns-in_err-item c =
    let p = err_from_is_err_and c.from_residual-in_err-item.result c.from_residual-in_err-item.ensures.1 in
    rw (p.1, p.2) (ends c.in_err-item.field-0.0 pair_object (pair_at c.args.version) c.loop.list c.loop.before c.args.count c.loop.counter c.loop.rest.now (items_at pair_object (pair_at c.args.version) 0 c.args.count c.args.bytes.now) c.loop-test.true c.in_err-item.ensures c.loop.invariant)

pub loop-preserved : goal.loop-preserved
loop-preserved c =
    let number = c.in_ok-item.item.1 in
    let fits : FitsSigned w128 number = omega (arith, ints) in
    let more : c.push.new.self ≡ c.loop.list ++ (c.in_ok-item.item.0.0, number) ∷ [] = rw (to_z-of_z w128 number fits) at c.in_ok-push.ensures.ok in
    rw more (goes_on pair_object (pair_at c.args.version) c.loop.list c.loop.before c.args.count c.loop.counter c.loop.rest.now ((c.in_ok-item.item.0.0, c.in_ok-item.item.1)) c.in_ok-item.after.now (items_at pair_object (pair_at c.args.version) 0 c.args.count c.args.bytes.now) c.loop-test.true c.in_ok-item.ensures c.loop.invariant)

pub returns : goal.returns
returns c = is_done pair_object (pair_at c.args.version) c.loop.list c.loop.before c.args.count c.loop.counter c.loop.rest.now (items_at pair_object (pair_at c.args.version) 0 c.args.count c.args.bytes.now) c.loop-test.false c.loop.invariant
