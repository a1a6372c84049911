use Rattle.std.proofs.Common.{◌≡◌, ◌≤◌, ℕ, vec_capacity, vec_len}
use Rattle.std.specs.List.{All}
use Rattle.tk_rows.specs.Factors.{factor_at}
use Rattle.tk_journal.specs.Entries.{IsEntryOf}
use Rattle.tk_coord.proofs.BeginLemmas.{assigns_by, factors_by}
use Rattle.tk_coord.proofs.opening.table_assigns.Given as goal

-- the Assigns to the monitors up to here
abbrev pub invariant-loop-j : goal.invariant-loop-j
invariant-loop-j l =
    record {
      same : l.entries.items ≡ assigns_by l.members (λ mon. factors_by (factor_at l.table mon) l.settings.objects) l.j;
      len : vec_len l.entries ≡ l.j;
      room : l.monitors ≤ vec_capacity l.entries;
      entries : (n : ℕ) → All (IsEntryOf l.settings.monitors n) l.entries.items;
    }
