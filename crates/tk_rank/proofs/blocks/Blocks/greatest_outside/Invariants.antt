use Rattle.std.proofs.Common.{◌≡◌, ◌+◌, ◌*◌, min, length}
use Rattle.std.specs.List.{range_with_len}
use Rattle.tk_border.specs.Levels.{greatest_of, IsPassed}
use Rattle.tk_rank.specs.Tree.{others_in, standing}
use Rattle.tk_rank.proofs.blocks.Blocks.greatest_outside.Given as goal

-- the greatest of the blocks so far outside the set, along which the walk has passed their objects
abbrev pub invariant-loop-block : goal.invariant-loop-block
invariant-loop-block g l =
    let leaves = l.fn.self.leaves in
    record {
      most : g.N.Node.number l.most ≡ greatest_of (standing leaves (others_in l.set (range_with_len 1 (min (length leaves) (64 * l.block)))));
      passed : IsPassed l.set l.place (min (length leaves) (64 * l.block) + 1);
    }
