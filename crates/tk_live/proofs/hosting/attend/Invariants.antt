use Rattle.std.proofs.Common.{◌≡◌}
use Rattle.tk_live.specs.Hosting.{IsGoing}
use Rattle.tk_live.proofs.hosting.attend.Given as goal

-- the hub goes on, and no put failed
abbrev pub invariant-loop : goal.invariant-loop
invariant-loop g l = record {
  going : IsGoing l.names l.fn.hub l.hub (g.N.Net.state l.fn.net) (g.N.Net.state l.net) (g.O.Sink.written l.fn.out) (g.O.Sink.written l.out);
  faults : g.O.Sink.fault_count l.out ≡ g.O.Sink.fault_count l.fn.out;
}
