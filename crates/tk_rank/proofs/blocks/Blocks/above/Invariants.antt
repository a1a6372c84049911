use Rattle.std.proofs.Common.{◌≡◌, ◌*◌, min, length}
use Rattle.std.specs.List.{range_with_len}
use Rattle.tk_base.specs.Ascending.{numbers_of}
use Rattle.tk_rank.specs.Tree.{those_over}
use Rattle.tk_rank.proofs.blocks.Blocks.above.Given as goal

-- those of the blocks so far are found
abbrev pub invariant-loop-block : goal.invariant-loop-block
invariant-loop-block g l = numbers_of l.found.items ≡ those_over l.level l.fn.self.leaves (range_with_len 1 (min (length l.fn.self.leaves) (64 * l.block)))
