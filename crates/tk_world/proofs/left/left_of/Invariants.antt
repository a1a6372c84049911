use Rattle.std.proofs.Common.{◌≡◌, ◌≤◌, ◌*◌, take}
use Rattle.std.specs.List.{zip}
use Rattle.tk_input.specs.Logs.{parts_of, places_of}
use Rattle.tk_monitor.proofs.PartsLemmas.{left_count}
use Rattle.tk_world.proofs.left.left_of.Given as goal

-- the changes left of the parts passed are counted
abbrev pub invariant-loop-f : goal.invariant-loop-f
invariant-loop-f l = record {
  left : l.left ≡ left_count (take l.f (zip (parts_of l.logs.logs l.mon.0) (places_of l.from l.mon.0)));
  few : l.left ≤ 1000000 * l.f;
}
