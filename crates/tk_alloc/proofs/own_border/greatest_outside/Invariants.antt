use Rattle.std.proofs.Common.{◌≡◌, map}
use Rattle.tk_base.specs.Pairs.{objects_of}
use Rattle.tk_border.specs.Levels.{level_at, greatest_of, outside}
use Rattle.tk_alloc.specs.Resolving.{own_factors}
use Rattle.tk_alloc.proofs.own_border.greatest_outside.Given as goal

-- the greatest of those so far that are outside
abbrev pub invariant-loop-place : goal.invariant-loop-place
invariant-loop-place l = l.greatest ≡ greatest_of (map (level_at (own_factors l.table)) (outside l.place (objects_of l.values)))
