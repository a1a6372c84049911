use Rattle.std.proofs.Common.{◌≡◌, take}
use Rattle.tk_base.proofs.pairs.agree.Given as goal

-- both lists have the same pairs up to here
abbrev pub invariant-loop-i : goal.invariant-loop-i
invariant-loop-i l = take l.i l.left ≡ take l.i l.right
