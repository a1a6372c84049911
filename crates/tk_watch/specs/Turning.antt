-- What a look at a connection does inside. No public clause cites this file.
use Rattle.std.specs.Prelude.{◌≡◌, Bool, Some, IfSome, true, false, ⊤}
use Rattle.tk_port.specs.Port.{IsPort, PortView}
use Rattle.tk_port.specs.Turn.{Reaches}
use Rattle.tk_port.specs.declared.turn.Turn.{Turn}
use Rattle.tk_port.specs.declared.turn.Turn.TheVariants as p
use Rattle.tk_trail.specs.Readings.{is_stopped}
use Rattle.tk_compact.specs.Begun.{begun}
use Rattle.tk_port.specs.declared.course.Course.TheVariants as course
use Rattle.tk_watch.specs.Standing.{StandingView}
use Rattle.tk_watch.specs.TrailSize.{KeepsRoom}
use Rattle.tk_watch.specs.Watch.{Shows, WatchView}
use Rattle.tk_watch.specs.declared.cause.Cause.TheVariants as c
use Rattle.tk_watch.specs.declared.turned.Turned.{Turned}
use Rattle.tk_watch.specs.declared.turned.Turned.TheVariants as t

-- what a turn of a port says of its connection
abbrev pub turned_by : Turn → Turned
turned_by p.Quiet = t.Quiet
turned_by p.More = t.More
turned_by p.Stopped = t.Stopped
turned_by p.Failed = t.Left c.Link
turned_by (p.Refused why) = t.Left c.Refused
turned_by (p.Bad fault) = t.Left c.Bad
turned_by p.NoMemory = t.Left c.Memory

-- whether a connection goes on behind a look
abbrev pub turns_on : Turned → Bool
turns_on t.More = true
turns_on t.Quiet = true
turns_on t.Stopped = false
turns_on (t.Left cause) = false

-- what a look says of the port that it left
abbrev pub SaysOf : {W : Type 0} → Turned → PortView W → Type 0
SaysOf t.More port = ⊤
SaysOf t.Quiet port = ⊤
SaysOf t.Stopped port = is_stopped port.monitor.trail ≡ true
SaysOf (t.Left cause) port = Shows cause (Some port)

-- a look at a port: its monitor took frames and was checked
pub record Looks {W : Type 0} (turned : Turned) (old new : PortView W) : Type 0 where
  pub reaches : Reaches old.monitor new.monitor
  pub says : SaysOf turned new

-- a look at a connection that is there
pub record LooksOn {W : Type 0} (turned : Turned) (old new : StandingView W) : Type 0 where
  pub after : PortView W
  pub is : new ≡ record { monitor = after.monitor; port = Some after }
  pub reaches : Reaches old.monitor new.monitor
  pub says : SaysOf turned after
  pub room : KeepsRoom turned after.monitor.trail
  pub kept : IsPort after

-- a look where there may be one
abbrev pub LooksAt : {W : Type 0} → Turned → StandingView W → StandingView W → Type 0
LooksAt turned old new = IfSome old.port (λ before. LooksOn turned old new)

-- a port of a watch's monitor that begins anew, and has said nothing but Hello
pub record JoinsAnew {W : Type 0} (w : WatchView W) (port : PortView W) : Type 0 where
  pub run : port.run ≡ w.run
  pub monitor : port.monitor ≡ begun w.monitor
  pub version : port.link.version ≡ w.version
  pub course : port.course ≡ course.Open
