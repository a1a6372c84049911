use Rattle.std.proofs.Common.{◌≡◌, ◌≤◌, take, vec_capacity, vec_len}
use Rattle.tk_alloc.specs.Resolving.{own_factors}
use Rattle.tk_coord.proofs.board.own_levels.Given as goal

-- the own factors of the objects up to here
abbrev pub invariant-loop-place : goal.invariant-loop-place
invariant-loop-place l = record {
  same : l.levels.items ≡ take l.place (own_factors l.table);
  len : vec_len l.levels ≡ l.place;
  room : l.objects ≤ vec_capacity l.levels;
}
