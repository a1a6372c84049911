use Rattle.std.proofs.Common.{◌≡◌, ◌<◌, ◌≤◌, ◌^◌, ◌-◌, ℕ, length, vec_capacity, vec_len, map, take, get_or}
use Rattle.std.specs.List.{All}
use Rattle.tk_rows.specs.declared.mon_change.MonChange.{MonChange}
use Rattle.tk_alloc.specs.Parts.{by_monitor}
use Rattle.tk_journal.specs.Entries.{IsEntryOf}
use Rattle.tk_coord.specs.Dealing.{assigns_by}
use Rattle.tk_coord.proofs.EntriesLemmas.{assign_to}
use Rattle.tk_coord.proofs.entries.assigns.Given as goal

abbrev pub invariant-loop-change : goal.invariant-loop-change
invariant-loop-change l =
    record {
      same : l.entries.items ≡ map (assign_to l.peers l.reallocation.members) (by_monitor (take l.change-index l.reallocation.at.items));
      few : (k : ℕ) (d : MonChange) → k < l.change-index → assigns_by l.peers (get_or l.reallocation.at.items k d).mon.0 < 2 ^ 64 - 1;
      len : vec_len l.entries ≡ l.change-index;
      room : length l.reallocation.at.items ≤ vec_capacity l.entries;
      entries : (n : ℕ) → All (IsEntryOf (length l.peers) n) l.entries.items;
    }
