use Rattle.std.proofs.Common.{◌≡◌, ◌≤◌, length}
use Rattle.tk_host.specs.Going.{TellsOf, going, published_by}
use Rattle.tk_host.proofs.session.Session.tell.Given as goal

-- so many sets are told
abbrev pub invariant-loop : goal.invariant-loop
invariant-loop g l = record {
  hub : l.self.hub ≡ l.fn.self.hub;
  roster : l.self.roster ≡ l.fn.self.roster;
  missing : l.self.missing ≡ l.fn.self.missing;
  tally : l.self.tally ≡ l.fn.self.tally;
  count : l.self.told ≡ l.counter;
  end : l.end ≡ length (published_by l.fn.self);
  within : l.counter ≤ l.end;
  tells : TellsOf l.names going l.fn.self l.self (g.O.Sink.written l.fn.out) (g.O.Sink.written l.out);
  faults : g.O.Sink.fault_count l.out ≡ g.O.Sink.fault_count l.fn.out;
}
