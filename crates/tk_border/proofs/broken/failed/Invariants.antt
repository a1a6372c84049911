use Rattle.std.proofs.Common.{◌≡◌, ◌+◌, filter}
use Rattle.tk_base.specs.Ascending.{numbers_of}
use Rattle.tk_border.specs.Levels.{level_at, is_above, least_member, outside, IsPassed}
use Rattle.tk_border.proofs.broken.failed.Given as goal

-- the walk has passed the objects so far, and those of them that are broken are kept
abbrev pub invariant-loop-i : goal.invariant-loop-i
invariant-loop-i l = record {
  passed : IsPassed l.members l.place (l.i + 1);
  broken : numbers_of l.list.items ≡ filter (λ o. is_above (least_member l.levels l.members) (level_at l.levels o)) (outside l.i l.members);
}
