use Rattle.std.proofs.Common.{◌≡◌, ◌++◌, ◌∷◌, []}
use Rattle.std.proofs.lemmas.Result.{err_from_is_err_and}
use Rattle.std.proofs.lemmas.List.{map_push}
use Rattle.tk_base.specs.Ascending.{numbers_of}
use Rattle.tk_frames.specs.Spelling.{object_itself}
use Rattle.tk_frames.specs.Reading.{object_at, items_at}
use Rattle.tk_frames.proofs.Loop.{goes_on, ends, is_done}
use Rattle.tk_frames.proofs.reading.objects.Goals as goal

pub returns-in_err-number : goal.returns-in_err-number
returns-in_err-number c =
    let p = err_from_is_err_and c.from_residual-in_err-number.result c.from_residual-in_err-number.ensures.1 in
    rw (p.1, p.2) (ends c.in_err-number.field-0.0 object_itself (object_at c.args.version) (numbers_of c.loop.list.items) c.loop.before c.args.count c.loop.counter c.loop.rest.now (items_at object_itself (object_at c.args.version) 0 c.args.count c.args.bytes.now) c.loop-test.true c.in_err-number.ensures c.loop.invariant)

pub loop-preserved : goal.loop-preserved
loop-preserved c =
    let more : numbers_of c.push.new.self.items ≡ numbers_of c.loop.list.items ++ (c.in_ok-number.number) ∷ [] = rw c.in_ok-push.ensures.items (map_push _ c.loop.list.items _) in
    rw more (goes_on object_itself (object_at c.args.version) (numbers_of c.loop.list.items) c.loop.before c.args.count c.loop.counter c.loop.rest.now (c.in_ok-number.number) c.in_ok-number.after.now (items_at object_itself (object_at c.args.version) 0 c.args.count c.args.bytes.now) c.loop-test.true c.in_ok-number.ensures c.loop.invariant)

pub returns : goal.returns
returns c = is_done object_itself (object_at c.args.version) (numbers_of c.loop.list.items) c.loop.before c.args.count c.loop.counter c.loop.rest.now (items_at object_itself (object_at c.args.version) 0 c.args.count c.args.bytes.now) c.loop-test.false c.loop.invariant
