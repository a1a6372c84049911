use Rattle.std.proofs.Common.{◌≡◌, ◌+◌, ◌-◌, ◌≤◌, map}
use Rattle.std.specs.List.{range_with_len}
use Rattle.tk_border.specs.Levels.{greatest_of, IsPassed}
use Rattle.tk_rank.specs.Tree.{others_in, standing}
use Rattle.tk_rank.proofs.leaves.greatest_left.Given as goal

-- the greatest of the leaves so far outside the set, along which the walk has passed their objects
abbrev pub invariant-loop-i : goal.invariant-loop-i
invariant-loop-i g l = record {
  order : l.from ≤ l.i;
  most : g.N.Node.number l.most ≡ greatest_of (standing (map g.N.Node.number l.leaves) (others_in l.set (range_with_len (l.from + 1) (l.i - l.from))));
  passed : IsPassed l.set l.place (l.i + 1);
}
