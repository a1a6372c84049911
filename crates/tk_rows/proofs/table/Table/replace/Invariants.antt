use Rattle.std.proofs.Common.{◌≡◌}
use Rattle.tk_rows.proofs.ReplacingLemmas.{rows_after}
use Rattle.tk_rows.proofs.table.Table.replace.Given as goal

-- the rows of the first objects are written
abbrev pub invariant-loop-place : goal.invariant-loop-place
invariant-loop-place l = (l.self-inside.rows.items ≡ rows_after l.fn.self.rows l.change l.place) × (l.self-inside.monitors ≡ l.fn.self.monitors)
