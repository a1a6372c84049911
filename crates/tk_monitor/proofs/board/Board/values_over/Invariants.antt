use Rattle.std.proofs.Common.{◌≡◌, take}
use Rattle.tk_monitor.specs.Board.{values_in}
use Rattle.tk_monitor.proofs.board.Board.values_over.Given as goal

-- the values of the objects passed are listed
abbrev pub invariant-loop-i : goal.invariant-loop-i
invariant-loop-i l = l.list ≡ values_in l.self.values (take l.i l.asked)
