use Rattle.std.specs.Prelude.{◌≡◌, ◌*◌, ◌^◌, ◌≤◌, sum_by, take, unsigned_abs}
use Rattle.tk_trail.specs.Readings.{values_of}
use Rattle.tk_compact.proofs.anew.size_of_values.Given as goal

-- the values passed are summed, each within the limit
abbrev pub invariant-loop-i : goal.invariant-loop-i
invariant-loop-i l = record {
  sum_is : l.sum ≡ sum_by (λ v. unsigned_abs v) (take l.i (values_of l.monitor.setup l.monitor.trail));
  few : l.sum ≤ 2 ^ 100 * l.i;
}
