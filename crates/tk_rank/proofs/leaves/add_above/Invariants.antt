use Rattle.std.proofs.Common.{◌≡◌, ◌+◌, ◌-◌, ◌≤◌, ◌++◌, map}
use Rattle.std.specs.List.{range_with_len}
use Rattle.tk_base.specs.Ascending.{numbers_of}
use Rattle.tk_rank.specs.Tree.{those_over}
use Rattle.tk_rank.proofs.leaves.add_above.Given as goal

-- those of the leaves so far are found
abbrev pub invariant-loop-place : goal.invariant-loop-place
invariant-loop-place g l = record {
  order : l.from ≤ l.place;
  found : numbers_of l.found.items ≡ numbers_of l.fn.found.items ++ those_over l.level (map g.N.Node.number l.leaves) (range_with_len (l.from + 1) (l.place - l.from));
}
