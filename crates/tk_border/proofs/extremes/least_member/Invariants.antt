use Rattle.std.proofs.Common.{◌≡◌, map, take}
use Rattle.tk_border.specs.Levels.{level_at, least_of}
use Rattle.tk_border.proofs.extremes.least_member.Given as goal

abbrev pub invariant-loop-i : goal.invariant-loop-i
invariant-loop-i l = l.least ≡ least_of (map (level_at l.levels) (take l.i l.members))
