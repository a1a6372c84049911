use Rattle.std.proofs.Common.{◌≡◌, true, take}
use Rattle.tk_border.specs.Levels.{holds}
use Rattle.tk_border.proofs.members.holds.Given as goal

abbrev pub invariant-loop-i : goal.invariant-loop-i
invariant-loop-i l = holds l.set (take l.i l.members) ≡ true
