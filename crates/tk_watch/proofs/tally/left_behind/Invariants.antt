use Rattle.std.proofs.Common.{◌≡◌, ◌≤◌, length, take}
use Rattle.tk_watch.specs.Tally.{left_behind}
use Rattle.tk_watch.proofs.tally.left_behind.Given as goal

-- so much is left behind the entries so far
abbrev pub invariant-loop-i : goal.invariant-loop-i
invariant-loop-i l = (l.i ≤ length l.trail) × (l.left ≡ left_behind (take l.i l.trail))
