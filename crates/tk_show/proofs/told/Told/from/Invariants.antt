use Rattle.std.proofs.Common.{◌≡◌, take}
use Rattle.tk_show.proofs.told.Told.from.Given as goal

-- the places so far are kept
abbrev pub invariant-loop-i : goal.invariant-loop-i
invariant-loop-i l = l.list.items ≡ take l.i l.places
