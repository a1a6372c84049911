use Rattle.std.proofs.Common.{◌≡◌, ◌+◌, map}
use Rattle.tk_border.specs.Levels.{level_at, greatest_of, outside, IsPassed}
use Rattle.tk_border.proofs.extremes.greatest_outside.Given as goal

-- the walk has passed the objects so far, and the greatest of those outside is kept
abbrev pub invariant-loop-i : goal.invariant-loop-i
invariant-loop-i l = record {
  passed : IsPassed l.set l.place (l.i + 1);
  greatest : l.greatest ≡ greatest_of (map (level_at l.levels) (outside l.i l.set));
}
