use Rattle.std.proofs.Common.{◌≡◌, ◌++◌, ◌∷◌, []}
use Rattle.std.proofs.lemmas.Result.{err_from_is_err_and}
use Rattle.std.proofs.lemmas.List.{map_push}
use Rattle.tk_input.specs.Catalog.{names_of}
use Rattle.tk_trace.specs.Reading.{name_at, times_at}
use Rattle.tk_trace.proofs.Loop.{ends, goes_on, is_done}
use Rattle.tk_trace.proofs.reading.head.name_list.Goals as goal

pub returns-in_err-item : goal.returns-in_err-item
returns-in_err-item c =
    let p = err_from_is_err_and c.from_residual.result c.from_residual.ensures.1 in
    rw (p.1, p.2) (ends c.in_err-item.field-0.0 name_at (names_of c.loop.list.items) c.args.count c.loop.counter c.loop.rest.now (times_at name_at c.args.count c.args.bytes.now) c.loop-test.true c.in_err-item.ensures c.loop.invariant)

pub loop-preserved : goal.loop-preserved
loop-preserved c =
    let more : names_of c.push.new.self.items ≡ names_of c.loop.list.items ++ c.in_ok-item.item.items ∷ [] = rw c.in_ok-push.ensures.items (map_push _ c.loop.list.items _) in
    rw more (goes_on name_at (names_of c.loop.list.items) c.args.count c.loop.counter c.loop.rest.now c.in_ok-item.item.items c.in_ok-item.after.now (times_at name_at c.args.count c.args.bytes.now) c.loop-test.true c.in_ok-item.ensures c.loop.invariant)

pub returns : goal.returns
returns c = is_done name_at (names_of c.loop.list.items) c.args.count c.loop.counter c.loop.rest.now (times_at name_at c.args.count c.args.bytes.now) c.loop-test.false c.loop.invariant
