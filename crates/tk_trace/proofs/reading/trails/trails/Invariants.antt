use Rattle.std.proofs.Common.{◌≡◌, drop}
use Rattle.tk_frames.proofs.Loop.{with_front}
use Rattle.tk_trace.specs.Reading.{trails_at}
use Rattle.tk_verify.specs.Recorded.{trails_in}
use Rattle.tk_trace.proofs.reading.trails.trails.Given as goal

-- what was read and what is still to read make the whole
abbrev pub invariant-loop-i : goal.invariant-loop-i
invariant-loop-i l = with_front (trails_in l.list.items) (trails_at (drop l.i l.logs.logs) l.rest) ≡ trails_at l.logs.logs l.bytes
