use Rattle.std.proofs.Common.{◌≡◌, ◌≤◌, ℕ, [], vec_capacity, vec_len}
use Rattle.std.specs.List.{All}
use Rattle.tk_frames.specs.declared.frame.Frame.TheVariants as f
use Rattle.tk_journal.specs.Entries.{IsEntryOf}
use Rattle.tk_coord.specs.Batches.{to_each}
use Rattle.tk_coord.proofs.entries.first_assigns.Given as goal

abbrev pub invariant-loop-j : goal.invariant-loop-j
invariant-loop-j l = record {
  same : l.entries.items ≡ to_each (f.Assign 1 l.members []) l.j;
  len : vec_len l.entries ≡ l.j;
  room : l.monitors ≤ vec_capacity l.entries;
  entries : (n : ℕ) → All (IsEntryOf l.monitors n) l.entries.items;
}
