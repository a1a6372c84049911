-- What the code that refuses frames looks at. No public clause cites this file.
use Rattle.std.specs.Prelude.{Bool, Option, Some, None, if◌then◌else◌}
use Rattle.tk_trail.specs.Refusal.{Shown}
use Rattle.tk_trail.specs.declared.refusal.MonitorRefusal.{MonitorRefusal}
use Rattle.tk_monitor.specs.declared.refusals.Shown.{Shown as Seen}

-- what the code sees, as what a trail shows
abbrev pub shown_in : Seen → Shown
shown_in seen = record {
  objects = seen.objects;
  seq = seen.seq;
  members = seen.members.now;
  told = seen.told;
  stopped = seen.stopped;
}

-- a refusal, unless the test holds
abbrev pub refused : Bool → MonitorRefusal → Option MonitorRefusal
refused passes refusal = if passes then None else Some refusal
