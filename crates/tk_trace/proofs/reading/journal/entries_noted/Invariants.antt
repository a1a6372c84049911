use Rattle.std.proofs.Common.{◌≡◌, ◌-◌}
use Rattle.tk_frames.proofs.Loop.{with_front}
use Rattle.tk_trace.specs.Reading.{noted_at, times_at}
use Rattle.tk_trace.proofs.reading.journal.entries_noted.Given as goal

-- what was read and what is still to read make the whole
abbrev pub invariant-loop : goal.invariant-loop
invariant-loop l = with_front l.list.items (times_at (noted_at l.monitors) (l.count - l.counter) l.rest) ≡ times_at (noted_at l.monitors) l.count l.bytes
