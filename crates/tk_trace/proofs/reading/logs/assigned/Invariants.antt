use Rattle.std.proofs.Common.{◌≡◌, ◌+◌, length}
use Rattle.tk_input.specs.Rows.{logs_in}
use Rattle.tk_input.specs.Judged.{assigned_from}
use Rattle.tk_trace.proofs.reading.logs.assigned.Given as goal

-- the rows so far are listed, and the next monitor follows them
abbrev pub invariant-loop-row : goal.invariant-loop-row
invariant-loop-row l = record {
  listed : l.list.items ≡ assigned_from 1 (logs_in l.yielded);
  next : l.mon ≡ 1 + length l.yielded;
}
