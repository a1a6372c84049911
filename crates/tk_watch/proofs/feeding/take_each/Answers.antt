use Rattle.std.proofs.Common.{arith}
use Rattle.tk_watch.proofs.TakingLemmas.{rises_taken, stops_next, takes_next}
use Rattle.tk_watch.proofs.feeding.take_each.Goals as goal

pub returns-in-Err-clause-stops : goal.returns-in-Err-clause-stops
returns-in-Err-clause-stops g c =
    stops_next c.args.watched.now.watch c.loop-i.watched.watch c.take_one.new.watched.watch c.args.watched.now.windows c.loop-i.watched.windows c.take_one.new.watched.windows c.args.f c.args.batch.now c.loop-i.i _ c.in-Err.untold
    c.loop-i-test.true c.loop-i.invariant.0 c.in-Err.ensures.stops

pub loop-i-preserved : goal.loop-i-preserved
loop-i-preserved g c = (
  takes_next c.args.watched.now.watch c.loop-i.watched.watch c.take_one.new.watched.watch c.args.watched.now.windows c.loop-i.watched.windows c.take_one.new.watched.windows c.args.f c.args.batch.now c.loop-i.i _
      c.loop-i-test.true c.loop-i.invariant.0 c.in_default.ensures.takes,
  c.take_one.ensures.kept,
)

pub returns-clause-rises : goal.returns-clause-rises
returns-clause-rises g c =
    rises_taken c.args.watched.now.watch c.loop-i.watched.watch c.args.watched.now.windows c.loop-i.watched.windows c.args.f c.args.batch.now c.loop-i.i (omega (arith, c.loop-i-test.false)) c.monitor.ensures.kept c.loop-i.invariant.0
