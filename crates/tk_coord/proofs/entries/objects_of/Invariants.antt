use Rattle.std.proofs.Common.{◌≡◌, ◌≤◌, length, take, vec_capacity, vec_len}
use Rattle.tk_base.specs.Ascending.{numbers_of}
use Rattle.tk_base.specs.Pairs.{objects_of}
use Rattle.tk_coord.proofs.entries.objects_of.Given as goal

abbrev pub invariant-loop-i : goal.invariant-loop-i
invariant-loop-i l = record {
  same : numbers_of l.list.items ≡ take l.i (objects_of l.values);
  len : vec_len l.list ≡ l.i;
  room : length l.values ≤ vec_capacity l.list;
}
