use Rattle.std.proofs.Common.{◌≡◌, ◌++◌, All, take}
use Rattle.std.specs.List.{flat_map}
use Rattle.tk_trace.specs.Spelling.{IsNoted, noted}
use Rattle.tk_trace.proofs.writing.journal.entries.Given as goal

-- those so far are written, and are within the rules
abbrev pub invariant-loop-entry : goal.invariant-loop-entry
invariant-loop-entry l = record {
  told : l.out.items ≡ l.fn.out.items ++ flat_map noted (take l.entry-index l.entries);
  within : All (IsNoted l.monitors) (take l.entry-index l.entries);
}
