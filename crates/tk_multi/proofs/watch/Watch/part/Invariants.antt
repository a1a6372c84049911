use Rattle.std.proofs.Common.{◌≡◌, take}
use Rattle.std.specs.Prelude.{filter_map}
use Rattle.tk_multi.specs.Projection.{watched_change}
use Rattle.tk_multi.proofs.watch.Watch.part.Given as goal

-- the watched changes so far are there
abbrev pub invariant-loop-i : goal.invariant-loop-i
invariant-loop-i l = l.list ≡ filter_map (watched_change l.self) (take l.i l.all)
