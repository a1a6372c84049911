use Rattle.std.specs.Prelude.{◌≡◌, take}
use Rattle.tk_compact.specs.Anew.{anew, base_of, open_streams}
use Rattle.tk_compact.specs.Standing.{ends_of}
use Rattle.tk_compact.proofs.anew.begin_anew.Given as goal

-- the parts of the streams passed are made, and their starts
abbrev pub invariant-loop-i : goal.invariant-loop-i
invariant-loop-i l = record {
  parts : l.parts.items ≡ take l.i (anew l.monitor.setup l.monitor.trail (open_streams l.monitor.setup l.monitor.trail)).parts;
  starts : l.from.items ≡ take l.i (ends_of (base_of l.monitor.setup l.monitor.trail));
}
