use Rattle.std.proofs.Common.{◌≡◌, take}
use Rattle.std.specs.Prelude.{option_map}
use Rattle.std.specs.List.{concat, list_any}
use Rattle.tk_input.specs.Sink.{Grows}
use Rattle.tk_ledger.specs.Text.{is_tuned, line_with, lines_by}
use Rattle.tk_ledger.proofs.printing.print_publications.Given as goal

-- the lines so far are written, and no put failed
abbrev pub invariant-loop-entry : goal.invariant-loop-entry
invariant-loop-entry g l = record {
  tuned : l.tuned ≡ list_any is_tuned (take l.entry-index l.journal);
  written : Grows (g.O.Sink.written l.fn.out) (g.O.Sink.written l.out) (concat (lines_by (line_with (option_map (λ t. t.now) l.ticks) l.names) (take l.entry-index l.journal)));
  faults : g.O.Sink.fault_count l.out ≡ g.O.Sink.fault_count l.fn.out;
}
