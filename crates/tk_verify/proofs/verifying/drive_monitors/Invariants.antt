use Rattle.std.proofs.Common.{◌≡◌, ◌≤◌, List, length, map, take, vec_capacity}
use Rattle.std.specs.List.{range_with_len}
use Rattle.tk_journal.specs.declared.noted.Noted.{Noted}
use Rattle.tk_monitor.specs.Monitored.{MonitorView}
use Rattle.tk_story.specs.Ends.{as_made, made_for}
use Rattle.tk_verify.specs.Recorded.{recorded_from, trails_in}
use Rattle.tk_verify.proofs.RunLemmas.{AreLegalTo}
use Rattle.tk_verify.proofs.verifying.drive_monitors.Given as goal

-- the first monitors did what their trails say, which are legal
abbrev pub invariant-loop-j : goal.invariant-loop-j
invariant-loop-j l = record {
  made : map as_made l.monitors.items ≡ map (made_for l.settings l.logs l.from) (range_with_len 1 l.j);
  trails : map (λ (m : MonitorView). m.trail) l.monitors.items ≡ take l.j (trails_in l.trails);
  count : length l.monitors.items ≡ l.j;
  room : l.settings.monitors ≤ vec_capacity l.monitors;
  legal : (journal : List Noted) → AreLegalTo l.j (recorded_from l.from l.settings l.logs journal (trails_in l.trails));
}
