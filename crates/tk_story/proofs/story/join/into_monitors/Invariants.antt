use Rattle.std.proofs.Common.{◌≡◌, ◌≤◌, ◌+◌, length, map, vec_capacity}
use Rattle.tk_monitor.specs.Monitored.{MonitorView}
use Rattle.tk_story.specs.declared.ends.mon_end.MonEnd.{MonEnd}
use Rattle.tk_story.proofs.story.join.into_monitors.Given as goal

-- the trails of the ends passed, and room for the others
abbrev pub invariant-loop-end : goal.invariant-loop-end
invariant-loop-end l = record {
  trails : map (λ (m : MonitorView). m.trail) l.monitors.items ≡ map (λ (end : MonEnd). end.monitor.trail) l.yielded;
  room : length l.monitors.items + length l.end-iterator.rest.items ≤ vec_capacity l.monitors;
}
