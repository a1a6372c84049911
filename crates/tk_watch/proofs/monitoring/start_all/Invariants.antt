use Rattle.std.specs.Prelude.{◌≤◌, length}
use Rattle.tk_watch.proofs.monitoring.start_all.Given as goal

-- those that are left are the first streams
abbrev pub invariant-loop : goal.invariant-loop
invariant-loop g l = (length l.sources.items ≤ g.N.WatchName.named.streams) × (length l.sources.items ≤ 8)
