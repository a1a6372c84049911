use Rattle.std.proofs.Common.{◌≡◌}
use Rattle.tk_host.specs.Going.{Serves, Steps, TellsMore, going}
use Rattle.tk_host.proofs.hosting.admit.Given as goal

-- those that waited have joined
abbrev pub invariant-loop : goal.invariant-loop
invariant-loop g l = record {
  steps : Steps going l.fn.session l.session;
  tells : TellsMore going l.fn.session l.session (g.O.Sink.written l.fn.out) (g.O.Sink.written l.out);
  serves : Serves going (g.H.Host.state l.fn.host) (g.H.Host.state l.host);
  faults : g.O.Sink.fault_count l.out ≡ g.O.Sink.fault_count l.fn.out;
}
