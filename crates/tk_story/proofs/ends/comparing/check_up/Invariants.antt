use Rattle.std.proofs.Common.{take}
use Rattle.std.specs.Prelude.{filter_map}
use Rattle.tk_journal.specs.Links.{got_from}
use Rattle.tk_trail.specs.Readings.{sent_by}
use Rattle.tk_story.proofs.EndsLemmas.{Agrees}
use Rattle.tk_story.proofs.ends.comparing.check_up.Given as goal

-- the frames of the monitor among the entries passed were received as they were sent
abbrev pub invariant-loop-noted : goal.invariant-loop-noted
invariant-loop-noted l = Agrees (sent_by l.monitor.trail) (filter_map (got_from l.mon.0) (take l.noted-index l.end.coordinator.journal)) l.place l.noted-index
