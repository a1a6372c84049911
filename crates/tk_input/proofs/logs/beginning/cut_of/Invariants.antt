use Rattle.std.proofs.Common.{◌≡◌, ◌≤◌, length, map, take}
use Rattle.std.specs.Prelude.{vec_capacity, vec_len}
use Rattle.tk_input.specs.Rows.{logs_in}
use Rattle.tk_input.proofs.logs.beginning.cut_of.Given as goal

-- the monitors before stand at the beginnings of their parts, and there is room for the others
abbrev pub invariant-loop-row : goal.invariant-loop-row
invariant-loop-row l = record {
  same : l.list.items ≡ map (λ parts. map (λ part. 0) parts) (logs_in (take l.row-index l.rows));
  len : vec_len l.list ≡ l.row-index;
  room : length l.rows ≤ vec_capacity l.list;
}
