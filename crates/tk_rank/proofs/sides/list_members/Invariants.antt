use Rattle.std.proofs.Common.{◌≡◌, take, vec_capacity}
use Rattle.tk_base.specs.Ascending.{numbers_of}
use Rattle.tk_rank.proofs.sides.list_members.Given as goal

abbrev pub invariant-loop-i : goal.invariant-loop-i
invariant-loop-i l = record {
  items : numbers_of l.list.items ≡ take l.i l.members;
  room : vec_capacity l.list ≡ vec_capacity l.initial.list;
}
