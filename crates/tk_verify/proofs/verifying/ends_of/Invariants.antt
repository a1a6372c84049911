use Rattle.std.proofs.Common.{◌≡◌, ◌≤◌, ◌+◌, None, length, map, vec_capacity}
use Rattle.tk_monitor.specs.Monitored.{MonitorView}
use Rattle.tk_story.specs.declared.ends.mon_end.MonEnd.{MonEnd}
use Rattle.tk_verify.proofs.verifying.ends_of.Given as goal

-- the ends of the monitors passed, and room for the others
abbrev pub invariant-loop-monitor : goal.invariant-loop-monitor
invariant-loop-monitor l = record {
  monitors : map (λ (end : MonEnd). end.monitor) l.ends.items ≡ l.yielded;
  odds : map (λ (end : MonEnd). end.odd) l.ends.items ≡ map (λ (m : MonitorView). None) l.yielded;
  room : length l.ends.items + length l.monitor-iterator.rest.items ≤ vec_capacity l.ends;
}
