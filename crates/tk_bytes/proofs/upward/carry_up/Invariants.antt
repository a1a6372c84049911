use Rattle.std.proofs.Common.{◌≡◌}
use Rattle.tk_trail.specs.Readings.{sent_by}
use Rattle.tk_bytes.specs.Line.{IsLine, IsSaid, KeepsOthers, left_up}
use Rattle.tk_bytes.proofs.upward.carry_up.Given as goal

-- the frame is not taken yet, and all that the monitor sent is written
abbrev pub invariant-loop-line : goal.invariant-loop-line
invariant-loop-line l = record {
  line : IsLine l.mon.0 l.hub l.line;
  said : IsSaid (sent_by l.line.port.monitor.trail) l.line.port.link;
  same : l.hub.coordinator ≡ l.initial.hub.coordinator;
  port : l.line.port.monitor ≡ l.initial.line.port.monitor;
  others : KeepsOthers l.mon.0 l.initial.hub l.hub;
}

-- the bytes that are left
abbrev pub decreases-loop-line : goal.decreases-loop-line
decreases-loop-line l = left_up l.mon.0 l.hub l.line
