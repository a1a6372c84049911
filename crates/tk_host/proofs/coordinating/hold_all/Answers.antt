use Rattle.std.proofs.Common.{◌∙◌}
use Rattle.tk_host.proofs.HoldingLemmas.{held_last, held_more}
use Rattle.tk_host.proofs.coordinating.hold_all.Goals as goal

pub returns-in-Err-clause-holds : goal.returns-in-Err-clause-holds
returns-in-Err-clause-holds g c =
    held_last c.args.plan.now.names.now c.args.plan.now.settings c.args.plan.now.missing c.loop-number.number (g.O.Sink.written c.args.out.now) (g.O.Sink.written c.loop-number.out) (g.O.Sink.written c.hold.new.out)
    c.loop-number.invariant.held c.in-Err.end c.args.limit c.in-Err.ensures.holds

pub loop-number-preserved : goal.loop-number-preserved
loop-number-preserved g c = record {
  held =
      held_more c.args.plan.now.names.now c.args.plan.now.settings c.args.plan.now.missing c.loop-number.number (g.O.Sink.written c.args.out.now) (g.O.Sink.written c.loop-number.out) (g.O.Sink.written c.hold.new.out)
      c.loop-number.invariant.held c.in-Ok.next c.in-Ok.ensures.holds;
  listens = c.in-Ok.ensures.hosts.listens ∙ c.loop-number.invariant.listens;
  host = c.in-Ok.ensures.hosts.on ∙ c.loop-number.invariant.host;
  faults = c.in-Ok.ensures.counted ∙ c.loop-number.invariant.faults;
}
