use Rattle.std.proofs.Common.{◌≡◌, ◌≤◌, ◌*◌, ℕ, ℤ, List, length, take, ◌-◌}
use Rattle.std.specs.Prelude.{sum_by}
use Rattle.std.specs.List.{zip}
use Rattle.tk_monitor.proofs.parts.left_of.Given as goal

-- the changes left of the parts passed are counted
abbrev pub invariant-loop-i : goal.invariant-loop-i
invariant-loop-i l = record {
  left : l.left ≡ sum_by (λ (p : List (ℕ × ℤ) × ℕ). length p.0 - p.1) (take l.i (zip l.parts l.next));
  few : l.left ≤ 1000000 * l.i;
}
