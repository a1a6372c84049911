use Rattle.std.proofs.Common.{◌≡◌, ◌*◌, ◌≤◌, length}
use Rattle.tk_window.specs.Window.{up_to}
use Rattle.tk_window.proofs.expanding.expanded_length.Given as goal

-- the steps so far are counted
abbrev pub invariant-loop-i : goal.invariant-loop-i
invariant-loop-i l = record {
  counted : l.all ≡ length (up_to l.width l.ticked l.i);
  small : l.all ≤ 2000000 * l.i;
}
