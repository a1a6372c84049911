use Rattle.std.proofs.Common.{◌≡◌, ◌++◌, take}
use Rattle.tk_window.proofs.expanding.add.Given as goal

-- the changes so far are added
abbrev pub invariant-loop-i : goal.invariant-loop-i
invariant-loop-i l = l.list ≡ l.fn.list ++ take l.i l.changes
