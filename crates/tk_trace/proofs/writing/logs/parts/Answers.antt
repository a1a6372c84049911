use Rattle.std.proofs.Common.{◌≤◌, length}
use Rattle.std.proofs.lemmas.Result.{err_from_is_err_and}
use Rattle.tk_trace.specs.Spelling.{part}
use Rattle.tk_trace.proofs.WritingLemmas.{all_out, more, none_out, not_ok, one_within}
use Rattle.tk_trace.proofs.writing.logs.parts.Goals as goal

pub loop-item-init : goal.loop-item-init
loop-item-init c = none_out part c.args.parts.now c.args.out.now.items

pub part-requires : goal.part-requires
part-requires c = one_within (λ p. length p ≤ 1000000) c.args.parts.now c.loop-item.item-index c.item-item.result c.loop-item-test.true c.item-item.is c.requires

pub returns-in_err-part : goal.returns-in_err-part
returns-in_err-part c =
    let p = err_from_is_err_and c.from_residual.result c.from_residual.ensures.1 in
    not_ok c.from_residual.result p.0 _ p.1

pub loop-item-preserved : goal.loop-item-preserved
loop-item-preserved c = more part c.args.parts.now c.loop-item.item-index c.item-item.result c.args.out.now.items c.loop-item.out.items c.part.new.out.items c.loop-item-test.true c.item-item.is c.loop-item.invariant c.in_ok-part.ensures

pub returns : goal.returns
returns c = all_out part c.args.parts.now c.loop-item.item-index c.args.out.now.items c.loop-item.out.items c.loop-item-test.false c.loop-item.invariant
