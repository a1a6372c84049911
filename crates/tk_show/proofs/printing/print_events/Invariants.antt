use Rattle.std.proofs.Common.{◌≡◌, drop}
use Rattle.tk_show.specs.Text.{lines_from}
use Rattle.tk_show.proofs.WritingLemmas.{Goes}
use Rattle.tk_show.proofs.printing.print_events.Given as goal

-- the lines of the events so far are written, and no put failed
abbrev pub invariant-loop-event : goal.invariant-loop-event
invariant-loop-event g l = record {
  written : Goes (g.O.Sink.written l.fn.out) (g.O.Sink.written l.out) (lines_from l.names l.story.story l.fn.telling l.events)
      (lines_from l.names l.story.story l.telling (drop l.event-index l.events));
  faults : g.O.Sink.fault_count l.out ≡ g.O.Sink.fault_count l.fn.out;
}
