use Rattle.std.proofs.Common.{◌≡◌, true, take}
use Rattle.tk_base.specs.Ascending.{numbers_of}
use Rattle.tk_border.specs.Levels.{holds}
use Rattle.tk_rank.proofs.sides.holds_all.Given as goal

abbrev pub invariant-loop-o : goal.invariant-loop-o
invariant-loop-o l = holds l.set (take l.o-index (numbers_of l.members)) ≡ true
