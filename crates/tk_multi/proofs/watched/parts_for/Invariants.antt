use Rattle.std.proofs.Common.{◌≡◌, take}
use Rattle.tk_input.specs.Judged.{assigned_from}
use Rattle.tk_multi.specs.Projection.{seen_logs}
use Rattle.tk_multi.proofs.watched.parts_for.Given as goal

-- the parts of the monitors so far are there
abbrev pub invariant-loop-j : goal.invariant-loop-j
invariant-loop-j l = l.parts.items ≡ assigned_from 1 (seen_logs l.watch (take l.j l.logs.logs))
