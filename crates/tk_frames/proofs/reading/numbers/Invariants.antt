use Rattle.std.proofs.Common.{◌≡◌, ◌-◌}
use Rattle.tk_frames.specs.Spelling.{no_object}
use Rattle.tk_frames.specs.Reading.{place_at, items_at}
use Rattle.tk_frames.proofs.Loop.{with_front}
use Rattle.tk_frames.proofs.reading.numbers.Given as goal

-- what was read and what is still to read make the whole
abbrev pub invariant-loop : goal.invariant-loop
invariant-loop l = with_front l.list.items (items_at no_object (place_at l.version) 0 (l.count - l.counter) l.rest) ≡ items_at no_object (place_at l.version) 0 l.count l.bytes
