use Rattle.std.proofs.Common.{◌≡◌, ◌+◌, ◌-◌, ◌≤◌, map}
use Rattle.std.specs.List.{range_with_len}
use Rattle.tk_border.specs.Levels.{greatest_of}
use Rattle.tk_rank.specs.Tree.{standing}
use Rattle.tk_rank.proofs.leaves.greatest.Given as goal

-- the greatest of the leaves so far
abbrev pub invariant-loop-place : goal.invariant-loop-place
invariant-loop-place g l = record {
  order : l.from ≤ l.place;
  most : g.N.Node.number l.most ≡ greatest_of (standing (map g.N.Node.number l.leaves) (range_with_len (l.from + 1) (l.place - l.from)));
}
