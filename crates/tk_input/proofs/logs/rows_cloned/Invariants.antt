use Rattle.std.proofs.Common.{◌≡◌, ◌≤◌, length, take}
use Rattle.std.specs.Prelude.{vec_capacity, vec_len}
use Rattle.tk_input.specs.Rows.{logs_in}
use Rattle.tk_input.proofs.logs.rows_cloned.Given as goal

-- the rows so far are cloned, and there is room for the others
abbrev pub invariant-loop-row : goal.invariant-loop-row
invariant-loop-row l = record {
  same : logs_in l.clones.items ≡ logs_in (take l.row-index l.rows);
  len : vec_len l.clones ≡ l.row-index;
  room : length l.rows ≤ vec_capacity l.clones;
}
