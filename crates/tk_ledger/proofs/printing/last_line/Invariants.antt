use Rattle.std.proofs.Common.{◌≡◌, ◌≤◌, [], length, take}
use Rattle.std.specs.Prelude.{unwrap_or}
use Rattle.std.specs.List.{list_any}
use Rattle.tk_base.specs.History.{last_of}
use Rattle.tk_ledger.specs.Text.{is_tuned, lines_of}
use Rattle.tk_ledger.proofs.printing.last_line.Given as goal

-- the publications so far are counted, and the line is that of the last of them
abbrev pub invariant-loop-entry : goal.invariant-loop-entry
invariant-loop-entry l = record {
  tuned : l.tuned ≡ list_any is_tuned (take l.entry-index l.journal);
  count : l.count ≡ length (lines_of l.names (take l.entry-index l.journal));
  few : l.count ≤ l.entry-index;
  line : l.line.items ≡ unwrap_or (last_of (lines_of l.names (take l.entry-index l.journal))) [];
}
