use Rattle.std.proofs.Common.{◌≡◌, ◌≤◌, map}
use Rattle.std.specs.Prelude.{vec_capacity, vec_len}
use Rattle.std.specs.List.{range_with_len}
use Rattle.tk_input.specs.Judged.{feeders_of}
use Rattle.tk_input.specs.Rows.{logs_in}
use Rattle.tk_input.proofs.logs.rows.rows_of.Given as goal

-- the rows so far are there, and there is room for the others
abbrev pub invariant-loop-place : goal.invariant-loop-place
invariant-loop-place l = record {
  same : logs_in l.rows.items ≡ map (feeders_of l.parts) (range_with_len 1 l.place);
  len : vec_len l.rows ≡ l.place;
  room : l.last ≤ vec_capacity l.rows;
}
