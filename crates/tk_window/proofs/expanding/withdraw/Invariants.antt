use Rattle.std.proofs.Common.{◌≡◌, ◌++◌, take}
use Rattle.tk_window.specs.Window.{withdrawn}
use Rattle.tk_window.proofs.expanding.withdraw.Given as goal

-- the changes so far are taken back
abbrev pub invariant-loop-i : goal.invariant-loop-i
invariant-loop-i l = l.list ≡ l.fn.list ++ withdrawn (take l.i l.changes)
