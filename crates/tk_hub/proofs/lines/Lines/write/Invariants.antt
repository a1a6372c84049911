use Rattle.std.proofs.Common.{length, ◌-◌, ◌≡◌, ◌≤◌}
use Rattle.tk_input.specs.Sink.{Grows}
use Rattle.tk_hub.specs.Lines.{IsAt, text_between, written_in}
use Rattle.tk_hub.proofs.lines.Lines.write.Given as goal

-- the lines of the entries that were passed so far are written, and no put failed
abbrev pub invariant-loop-self : goal.invariant-loop-self
invariant-loop-self g l = record {
  at : IsAt l.journal l.self;
  forward : l.fn.self.passed ≤ l.self.passed;
  counted : written_in l.journal l.fn.self ≤ written_in l.journal l.self;
  grown : Grows (g.O.Sink.written l.fn.out) (g.O.Sink.written l.out) (text_between l.names l.journal (written_in l.journal l.fn.self) (written_in l.journal l.self));
  faults : g.O.Sink.fault_count l.out ≡ g.O.Sink.fault_count l.fn.out;
}

abbrev pub decreases-loop-self : goal.decreases-loop-self
decreases-loop-self g l = length l.journal - l.self.passed
