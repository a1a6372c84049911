use Rattle.std.proofs.Common.{◌≡◌, ◌++◌}
use Rattle.tk_input.specs.Judged.{under}
use Rattle.tk_trace.proofs.reading.logs.append_row.Given as goal

-- the parts so far stand at the end, each under the monitor
abbrev pub invariant-loop-part : goal.invariant-loop-part
invariant-loop-part l = l.list.items ≡ l.fn.list.items ++ under l.mon.0 l.yielded
