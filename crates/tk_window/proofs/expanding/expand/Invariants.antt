use Rattle.std.proofs.Common.{◌≡◌, length, map}
use Rattle.std.specs.List.{range_with_len}
use Rattle.tk_window.specs.Window.{up_to}
use Rattle.tk_window.proofs.expanding.expand.Given as goal

-- the window is moved to tick i, and each tick so far has its end
abbrev pub invariant-loop-i : goal.invariant-loop-i
invariant-loop-i l = record {
  moved : l.list ≡ up_to l.width l.ticked l.i;
  ends : l.ends.items ≡ map (λ t. length (up_to l.width l.ticked t)) (range_with_len 1 l.i);
}
