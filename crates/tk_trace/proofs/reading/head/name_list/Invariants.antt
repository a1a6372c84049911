use Rattle.std.proofs.Common.{◌≡◌, ◌-◌}
use Rattle.tk_input.specs.Catalog.{names_of}
use Rattle.tk_frames.proofs.Loop.{with_front}
use Rattle.tk_trace.specs.Reading.{name_at, times_at}
use Rattle.tk_trace.proofs.reading.head.name_list.Given as goal

-- what was read and what is still to read make the whole
abbrev pub invariant-loop : goal.invariant-loop
invariant-loop l = with_front (names_of l.list.items) (times_at name_at (l.count - l.counter) l.rest) ≡ times_at name_at l.count l.bytes
