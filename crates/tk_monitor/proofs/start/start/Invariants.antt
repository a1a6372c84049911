use Rattle.std.proofs.Common.{◌≡◌, ◌<◌, ◌≤◌, ℕ, length, get_or}
use Rattle.tk_monitor.specs.Start.{StandsAt}
use Rattle.tk_monitor.proofs.start.start.Given as goal

-- the parts passed stand at their starting places, the others at none of their changes
abbrev pub invariant-loop-i : goal.invariant-loop-i
invariant-loop-i l = record {
  shape : length l.next.items ≡ length l.parts;
  done : (q : ℕ) → q < l.i → get_or l.next.items q 0 ≡ get_or l.from q 0;
  rest : (q : ℕ) → l.i ≤ q → get_or l.next.items q 0 ≡ 0;
  stands : StandsAt (length l.fn.board.levels) l.parts l.next.items l.board;
}
