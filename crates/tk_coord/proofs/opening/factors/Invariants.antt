use Rattle.std.proofs.Common.{◌≡◌, ◌≤◌, vec_capacity, vec_len}
use Rattle.tk_base.specs.Pairs.{pairs_of}
use Rattle.tk_rows.specs.Factors.{factor_at}
use Rattle.tk_coord.proofs.BeginLemmas.{factors_by}
use Rattle.tk_coord.proofs.opening.factors.Given as goal

-- the factors of the objects up to here
abbrev pub invariant-loop-place : goal.invariant-loop-place
invariant-loop-place l = record {
  same : pairs_of l.list.items ≡ factors_by (factor_at l.table l.mon.0) l.place;
  len : vec_len l.list ≡ l.place;
  room : l.objects ≤ vec_capacity l.list;
}
