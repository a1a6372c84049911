use Rattle.std.proofs.Common.{◌≡◌, ◌≤◌, All, take}
use Rattle.tk_multi.specs.Alone.{AreOfOneSize, each_with, updates_together}
use Rattle.tk_multi.proofs.setting_up.each_alone.Given as goal

-- the queries so far are set up, and their changes are counted
abbrev pub invariant-loop-i : goal.invariant-loop-i
invariant-loop-i l = record {
  made : l.list.items ≡ take l.i (each_with l.names l.logs l.queries l.settings.items);
  total : l.updates ≡ updates_together l.list.items;
  few : l.updates ≤ 4000000;
  sizes : All AreOfOneSize l.list.items;
}
