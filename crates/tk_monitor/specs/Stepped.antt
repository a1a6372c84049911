-- A monitor after one step.
use Rattle.std.specs.Prelude.{ℕ, ℤ}
use Rattle.tk_frames.specs.declared.frame.Frame.{Frame}
use Rattle.tk_trail.specs.Growing.{grown}
use Rattle.tk_trail.specs.Legal.{after_check, after_take}
use Rattle.tk_monitor.specs.Monitored.{MonitorView}

-- a monitor once it was checked
abbrev pub checking : MonitorView → MonitorView
checking monitor = record monitor { trail = after_check monitor.setup monitor.trail }

-- a monitor once it took a frame
abbrev pub taking : MonitorView → Frame → MonitorView
taking monitor frame = record monitor { trail = after_take monitor.setup monitor.trail frame }

-- a monitor once the log of a feeder has a change more
abbrev pub growing : MonitorView → ℕ → ℕ × ℤ → MonitorView
growing monitor g change = record monitor { setup = grown monitor.setup g change }
