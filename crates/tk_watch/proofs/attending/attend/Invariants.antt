use Rattle.std.specs.Prelude.{◌≡◌}
use Rattle.tk_watch.specs.Passing.{HasTold}
use Rattle.tk_watch.proofs.attending.attend.Given as goal

-- some ends of ticks were told, and no put failed
abbrev pub invariant-loop : goal.invariant-loop
invariant-loop g l =
    HasTold g.row.W.Denot g.N.WatchName.named (g.O.Sink.written l.initial.out) (g.O.Sink.written l.out)
    × (g.O.Sink.fault_count l.out ≡ g.O.Sink.fault_count l.initial.out)
