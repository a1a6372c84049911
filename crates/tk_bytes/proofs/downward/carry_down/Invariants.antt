use Rattle.std.proofs.Common.{◌≡◌}
use Rattle.tk_bytes.specs.Line.{IsLine, IsSaidTo, KeepsOthers, left_down}
use Rattle.tk_bytes.proofs.downward.carry_down.Given as goal

-- the frame is not taken yet, and all that was sent to the monitor is written
abbrev pub invariant-loop-hub : goal.invariant-loop-hub
invariant-loop-hub l = record {
  line : IsLine l.mon.0 l.hub l.line;
  said : IsSaidTo l.mon.0 l.hub;
  same : l.hub.coordinator ≡ l.initial.hub.coordinator;
  port : l.line.port.monitor ≡ l.initial.line.port.monitor;
  others : KeepsOthers l.mon.0 l.initial.hub l.hub;
}

-- the bytes that are left
abbrev pub decreases-loop-hub : goal.decreases-loop-hub
decreases-loop-hub l = left_down l.mon.0 l.hub l.line
