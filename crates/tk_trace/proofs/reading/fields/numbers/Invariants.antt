use Rattle.std.proofs.Common.{◌≡◌, ◌-◌}
use Rattle.tk_frames.specs.Reading.{items_at}
use Rattle.tk_frames.specs.Spelling.{no_object}
use Rattle.tk_frames.proofs.Loop.{with_front}
use Rattle.tk_trace.specs.Reading.{place_at}
use Rattle.tk_trace.proofs.reading.fields.numbers.Given as goal

-- what was read and what is still to read make the whole
abbrev pub invariant-loop : goal.invariant-loop
invariant-loop l = with_front l.list.items (items_at no_object place_at 0 (l.count - l.counter) l.rest) ≡ items_at no_object place_at 0 l.count l.bytes
