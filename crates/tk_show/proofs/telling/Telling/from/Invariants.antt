use Rattle.std.proofs.Common.{◌≡◌, length, map, take, vec_capacity}
use Rattle.tk_show.specs.Told.{untold}
use Rattle.tk_show.proofs.telling.Telling.from.Given as goal

-- of the monitors so far nothing is told, and there is room for the others
abbrev pub invariant-loop-i : goal.invariant-loop-i
invariant-loop-i l = record {
  monitors : l.monitors.items ≡ map untold (take l.i l.from);
  room : vec_capacity l.monitors ≡ length l.from;
}
