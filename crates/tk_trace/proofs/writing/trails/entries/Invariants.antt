use Rattle.std.proofs.Common.{◌≡◌, ◌++◌, All, take}
use Rattle.std.specs.List.{flat_map}
use Rattle.tk_trace.specs.Spelling.{IsEntry, entry}
use Rattle.tk_trace.proofs.writing.trails.entries.Given as goal

-- those so far are written, and are within the rules
abbrev pub invariant-loop-item : goal.invariant-loop-item
invariant-loop-item l = record {
  told : l.out.items ≡ l.fn.out.items ++ flat_map entry (take l.item-index l.entries);
  within : All (IsEntry l.feeders) (take l.item-index l.entries);
}
