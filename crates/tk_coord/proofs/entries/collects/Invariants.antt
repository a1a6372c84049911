use Rattle.std.proofs.Common.{◌≡◌, ◌≤◌, ℕ, vec_capacity, vec_len}
use Rattle.std.specs.List.{All}
use Rattle.tk_journal.specs.Entries.{IsEntryOf}
use Rattle.tk_journal.specs.Turns.{collects}
use Rattle.tk_coord.specs.Dealing.{mons_but}
use Rattle.tk_coord.proofs.entries.collects.Given as goal

abbrev pub invariant-loop-j : goal.invariant-loop-j
invariant-loop-j l = record {
  same : l.entries.items ≡ collects l.round l.asked (mons_but l.j l.but);
  len : vec_len l.entries ≤ l.j;
  room : l.monitors ≤ vec_capacity l.entries;
  entries : (n : ℕ) → All (IsEntryOf l.monitors n) l.entries.items;
}
