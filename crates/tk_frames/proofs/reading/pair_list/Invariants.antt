use Rattle.std.proofs.Common.{◌≡◌, ◌-◌}
use Rattle.tk_frames.specs.Spelling.{pair_object}
use Rattle.tk_frames.specs.Reading.{pair_at, items_at}
use Rattle.tk_frames.proofs.Loop.{with_front}
use Rattle.tk_frames.proofs.reading.pair_list.Given as goal

-- what was read and what is still to read make the whole
abbrev pub invariant-loop : goal.invariant-loop
invariant-loop l = with_front l.list (items_at pair_object (pair_at l.version) l.before (l.count - l.counter) l.rest) ≡ items_at pair_object (pair_at l.version) 0 l.count l.bytes
