use Rattle.std.specs.Prelude.{◌≡◌, filter, take}
use Rattle.std.specs.List.{enumerate_from}
use Rattle.tk_trail.specs.Readings.{values_of}
use Rattle.tk_compact.specs.Compacted.{changes_something}
use Rattle.tk_compact.proofs.anew.compact.Given as goal

-- the values passed are there, but for zeros
abbrev pub invariant-loop-i : goal.invariant-loop-i
invariant-loop-i l = l.changes ≡ filter changes_something (enumerate_from 1 (take l.i (values_of l.monitor.setup l.monitor.trail)))
