use Rattle.std.proofs.Common.{◌≡◌}
use Rattle.tk_watch.specs.Passing.{GoesOn}
use Rattle.tk_watch.proofs.monitoring.go_on.Given as goal

-- so many connections were left, each with its lines, and no put failed
abbrev pub invariant-loop : goal.invariant-loop
invariant-loop g l =
    GoesOn g.row.L.Denot g.N.WatchName.named l.number (g.O.Sink.written l.initial.out) (g.O.Sink.written l.out)
    × (g.O.Sink.fault_count l.out ≡ g.O.Sink.fault_count l.initial.out)
