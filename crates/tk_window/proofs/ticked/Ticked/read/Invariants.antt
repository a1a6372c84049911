use Rattle.std.proofs.Common.{◌≡◌, ◌≤◌, [], length}
use Rattle.tk_input.specs.Records.{records_in, through}
use Rattle.tk_window.specs.Reading.{AreRead, entries_in}
use Rattle.tk_window.specs.Ticks.{entry_added}
use Rattle.tk_window.proofs.ticked.Ticked.read.Given as goal

-- what is left adds to the entries so far what the file adds to none; they are counted, and within their limits
abbrev pub invariant-loop-last : goal.invariant-loop-last
invariant-loop-last l = record {
  same : through (entry_added l.names) (entries_in l.closed.items l.last) l.rows ≡ through (entry_added l.names) [] (records_in l.fn.bytes);
  counted : l.records ≡ length (entries_in l.closed.items l.last);
  few : l.records ≤ 1000000;
  within : AreRead (length l.names) (record { closed = l.closed.items; last = l.last });
}

abbrev pub decreases-loop-last : goal.decreases-loop-last
decreases-loop-last l = length l.rows
