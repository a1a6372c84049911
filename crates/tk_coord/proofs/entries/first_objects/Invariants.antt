use Rattle.std.proofs.Common.{◌≡◌, ◌≤◌, vec_capacity, vec_len}
use Rattle.tk_base.specs.Ascending.{numbers_of}
use Rattle.tk_base.specs.Objects.{objects}
use Rattle.tk_coord.proofs.entries.first_objects.Given as goal

abbrev pub invariant-loop-o : goal.invariant-loop-o
invariant-loop-o l = record {
  same : numbers_of l.list.items ≡ objects l.o;
  len : vec_len l.list ≡ l.o;
  room : l.n ≤ vec_capacity l.list;
}
