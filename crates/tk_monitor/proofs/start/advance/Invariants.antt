use Rattle.std.proofs.Common.{◌≡◌, length, set}
use Rattle.tk_monitor.specs.Start.{StandsAt}
use Rattle.tk_monitor.proofs.start.advance.Given as goal

-- so many changes of the part count
abbrev pub invariant-loop-k : goal.invariant-loop-k
invariant-loop-k l = record {
  next : l.next.items ≡ set l.initial.next.items l.i l.k;
  stands : StandsAt (length l.initial.board.levels) l.parts l.next.items l.board;
}
