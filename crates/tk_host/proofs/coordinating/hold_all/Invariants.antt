use Rattle.std.proofs.Common.{◌≡◌, true}
use Rattle.tk_host.proofs.HoldingLemmas.{HeldAll}
use Rattle.tk_host.proofs.coordinating.hold_all.Given as goal

-- so many sessions were held, each ended by a cause
abbrev pub invariant-loop-number : goal.invariant-loop-number
invariant-loop-number g l = record {
  held : HeldAll l.plan.names.now l.plan.settings l.plan.missing l.number (g.O.Sink.written l.fn.out) (g.O.Sink.written l.out);
  listens : (g.H.Host.state l.host).listens ≡ true;
  host : (g.H.Host.state l.host).faults ≡ (g.H.Host.state l.fn.host).faults;
  faults : g.O.Sink.fault_count l.out ≡ g.O.Sink.fault_count l.fn.out;
}
