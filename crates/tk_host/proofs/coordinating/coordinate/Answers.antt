use Rattle.tk_host.proofs.HoldingLemmas.{coordinated_all, coordinated_none, risen}
use Rattle.tk_host.proofs.coordinating.coordinate.Goals as goal

pub returns-in-Err-clause-coordinates : goal.returns-in-Err-clause-coordinates
returns-in-Err-clause-coordinates g c =
    coordinated_none c.in-Err.end c.args.names.now c.args.settings.now c.args.missing c.args.sessions (g.O.Sink.written c.args.out.now) (g.O.Sink.written c.open.new.out) c.in-Err.ensures.opens

pub returns-clause-coordinates : goal.returns-clause-coordinates
returns-clause-coordinates g c =
    coordinated_all c.in_default.field-0 c.hold_all.result c.args.names.now c.args.settings.now c.args.missing c.args.sessions c.unwrap_or-limit.result (g.O.Sink.written c.args.out.now) (g.O.Sink.written c.open.new.out) (g.O.Sink.written c.hold_all.new.out)
    c.unwrap_or-limit.ensures c.in_default.ensures.opens c.hold_all.ensures.holds

pub returns-clause-failed : goal.returns-clause-failed
returns-clause-failed g c = λ is.
    risen (g.H.Host.state c.args.host.now).faults (g.H.Host.state c.open.new.host).faults (g.H.Host.state c.hold_all.new.host).faults c.in_default.ensures.same (c.hold_all.ensures.failed is)
