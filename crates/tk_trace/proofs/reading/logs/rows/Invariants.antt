use Rattle.std.proofs.Common.{◌≡◌, ◌-◌}
use Rattle.tk_input.specs.Rows.{logs_in}
use Rattle.tk_frames.proofs.Loop.{with_front}
use Rattle.tk_trace.specs.Reading.{row_at, times_at}
use Rattle.tk_trace.proofs.reading.logs.rows.Given as goal

-- what was read and what is still to read make the whole
abbrev pub invariant-loop : goal.invariant-loop
invariant-loop l = with_front (logs_in l.list.items) (times_at (row_at l.objects) (l.monitors - l.counter) l.rest) ≡ times_at (row_at l.objects) l.monitors l.bytes
