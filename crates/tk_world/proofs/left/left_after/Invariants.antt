use Rattle.std.proofs.Common.{◌≡◌, ◌≤◌, ◌*◌}
use Rattle.std.specs.Prelude.{sum_by}
use Rattle.std.specs.List.{range_with_len}
use Rattle.tk_input.specs.Logs.{parts_of, places_of}
use Rattle.tk_monitor.specs.Kept.{left_in}
use Rattle.tk_world.proofs.left.left_after.Given as goal

-- the changes left of the monitors passed are counted
abbrev pub invariant-loop-j : goal.invariant-loop-j
invariant-loop-j l = record {
  left : l.left ≡ sum_by (λ mon. left_in (parts_of l.logs.logs mon) (places_of l.from mon)) (range_with_len 1 l.j);
  few : l.left ≤ 8000000 * l.j;
}
