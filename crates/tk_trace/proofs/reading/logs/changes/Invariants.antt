use Rattle.std.proofs.Common.{◌≡◌, ◌-◌}
use Rattle.tk_frames.proofs.Loop.{with_front}
use Rattle.tk_trace.specs.Reading.{change_at, times_at}
use Rattle.tk_trace.proofs.reading.logs.changes.Given as goal

-- what was read and what is still to read make the whole
abbrev pub invariant-loop : goal.invariant-loop
invariant-loop l = with_front l.list (times_at (change_at l.objects) (l.count - l.counter) l.rest) ≡ times_at (change_at l.objects) l.count l.bytes
