use Rattle.std.proofs.Common.{take}
use Rattle.std.specs.Prelude.{filter_map}
use Rattle.tk_journal.specs.Links.{frames_to}
use Rattle.tk_trail.specs.Readings.{taken_in}
use Rattle.tk_story.proofs.EndsLemmas.{Agrees}
use Rattle.tk_story.proofs.ends.comparing.check_down.Given as goal

-- the frames taken by the entries passed are those that were sent
abbrev pub invariant-loop-entry : goal.invariant-loop-entry
invariant-loop-entry l = Agrees (frames_to l.mon.0 l.coordinator.journal) (filter_map taken_in (take l.entry-index l.end.monitor.trail)) l.place l.entry-index
