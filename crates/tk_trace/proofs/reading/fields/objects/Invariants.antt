use Rattle.std.proofs.Common.{◌≡◌, ◌-◌}
use Rattle.tk_base.specs.Ascending.{numbers_of}
use Rattle.tk_frames.specs.Reading.{items_at}
use Rattle.tk_frames.specs.Spelling.{object_itself}
use Rattle.tk_frames.proofs.Loop.{with_front}
use Rattle.tk_trace.specs.Reading.{object_at}
use Rattle.tk_trace.proofs.reading.fields.objects.Given as goal

-- what was read and what is still to read make the whole
abbrev pub invariant-loop : goal.invariant-loop
invariant-loop l = with_front (numbers_of l.list.items) (items_at object_itself object_at l.before (l.count - l.counter) l.rest) ≡ items_at object_itself object_at 0 l.count l.bytes
