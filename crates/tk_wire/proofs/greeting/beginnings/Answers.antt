use Rattle.tk_wire.proofs.GreetingLemmas.{one_more, all_read}
use Rattle.tk_wire.proofs.greeting.beginnings.Goals as goal

pub loop-preserved : goal.loop-preserved
loop-preserved c = one_more c.args.count c.loop.counter c.loop.list.items _ _ _ _ _ c.loop-test.true c.beginning.ensures.first c.beginning.ensures.rest c.in_ok-push.ensures.items c.loop.invariant.0 c.loop.invariant.1

pub returns : goal.returns
returns c = all_read c.args.count c.loop.counter c.loop.list.items _ _ c.loop-test.false c.loop.invariant.0
