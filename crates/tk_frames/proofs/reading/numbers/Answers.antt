use Rattle.std.proofs.Common.{◌≡◌, ◌++◌, ◌∷◌, []}
use Rattle.std.proofs.lemmas.Result.{err_from_is_err_and}
use Rattle.tk_frames.specs.Spelling.{no_object}
use Rattle.tk_frames.specs.Reading.{place_at, items_at}
use Rattle.tk_frames.proofs.Loop.{goes_on, ends, is_done}
use Rattle.tk_frames.proofs.reading.numbers.Goals as goal

pub returns-in_err-number : goal.returns-in_err-number
returns-in_err-number c =
    let p = err_from_is_err_and c.from_residual-in_err-number.result c.from_residual-in_err-number.ensures.1 in
    rw (p.1, p.2) (ends c.in_err-number.field-0.0 no_object (place_at c.args.version) (c.loop.list.items) 0 c.args.count c.loop.counter c.loop.rest.now (items_at no_object (place_at c.args.version) 0 c.args.count c.args.bytes.now) c.loop-test.true c.in_err-number.ensures c.loop.invariant)

pub loop-preserved : goal.loop-preserved
loop-preserved c =
    let more : c.push.new.self.items ≡ c.loop.list.items ++ (c.in_ok-number.number) ∷ [] = c.in_ok-push.ensures.items in
    rw more (goes_on no_object (place_at c.args.version) (c.loop.list.items) 0 c.args.count c.loop.counter c.loop.rest.now (c.in_ok-number.number) c.in_ok-number.after.now (items_at no_object (place_at c.args.version) 0 c.args.count c.args.bytes.now) c.loop-test.true c.in_ok-number.ensures c.loop.invariant)

pub returns : goal.returns
returns c = is_done no_object (place_at c.args.version) (c.loop.list.items) 0 c.args.count c.loop.counter c.loop.rest.now (items_at no_object (place_at c.args.version) 0 c.args.count c.args.bytes.now) c.loop-test.false c.loop.invariant
