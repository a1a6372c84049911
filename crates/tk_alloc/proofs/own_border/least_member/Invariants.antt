use Rattle.std.proofs.Common.{◌≡◌, map, take}
use Rattle.tk_border.specs.Levels.{level_at, least_of}
use Rattle.tk_alloc.specs.Resolving.{own_factors}
use Rattle.tk_alloc.proofs.own_border.least_member.Given as goal

abbrev pub invariant-loop-place : goal.invariant-loop-place
invariant-loop-place l = l.least ≡ least_of (map (level_at (own_factors l.table)) (take l.place l.members))
