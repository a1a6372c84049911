use Rattle.std.proofs.Common.{◌≡◌, take}
use Rattle.tk_trail.specs.Legal.{IsLegal}
use Rattle.tk_story.specs.Ends.{as_made}
use Rattle.tk_verify.specs.Driving.{IsDriven}
use Rattle.tk_verify.proofs.trails.drive.Given as goal

-- the monitor did what was seen of the trail, and is made as it was
abbrev pub invariant-loop-i : goal.invariant-loop-i
invariant-loop-i l = record {
  driven : IsDriven (IsLegal l.initial.monitor.setup) (take l.i l.trail) l.monitor.trail;
  made : as_made l.monitor ≡ as_made l.initial.monitor;
}
