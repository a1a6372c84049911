use Rattle.std.proofs.Common.{◌≡◌, take}
use Rattle.tk_input.specs.Sink.{Grows}
use Rattle.tk_ledger.specs.Text.{monitors_text}
use Rattle.tk_ledger.proofs.printing.print_monitors.Given as goal

-- the lines of the monitors so far are written, and no put failed
abbrev pub invariant-loop-i : goal.invariant-loop-i
invariant-loop-i g l = record {
  written : Grows (g.O.Sink.written l.fn.out) (g.O.Sink.written l.out) (monitors_text (take l.i l.per));
  faults : g.O.Sink.fault_count l.out ≡ g.O.Sink.fault_count l.fn.out;
}
