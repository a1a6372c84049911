-- A watch, as contracts see it, and what its type keeps.
use Rattle.std.specs.Prelude.{◌≡◌, ◌<◌, ◌≤◌, ℕ, List, [], ◌∷◌, length, replicate, Option, Some, None, IfSome, true, ⊤}
use Rattle.tk_base.specs.Settings.{Setup}
use Rattle.tk_frames.specs.Spelling.{IsVersion}
use Rattle.tk_input.specs.Changes.{closing}
use Rattle.tk_monitor.specs.Monitored.{MonitorView, made}
use Rattle.tk_trail.specs.Legal.{IsLegal}
use Rattle.tk_trail.specs.Readings.{is_stopped}
use Rattle.tk_trail.specs.Setup.{IsSetup}
use Rattle.tk_compact.specs.Anew.{size_of_values}
use Rattle.tk_compact.specs.Begun.{begun}
use Rattle.tk_compact.specs.Room.{IsWaiting, IsWeighed}
use Rattle.tk_port.specs.Port.{IsPort, PortView}
use Rattle.tk_port.specs.Turn.{Reaches}
use Rattle.tk_port.specs.declared.course.Course.TheVariants as course
use Rattle.tk_watch.specs.TrailSize.{KeepsRoom, frames_size, most_bytes}
use Rattle.tk_watch.specs.declared.cause.Cause.{Cause}
use Rattle.tk_watch.specs.declared.cause.Cause.TheVariants as c
use Rattle.tk_watch.specs.declared.turned.Turned.{Turned}
use Rattle.tk_watch.specs.declared.turned.Turned.TheVariants as t

-- its monitor, its end of a connection where there is one, at least what the sizes of its changes sum to, how many records each
-- stream gave, its run, and the version of its frames
pub record WatchView (W : Type 0) : Type 0 where
  pub monitor : MonitorView
  pub port : Option (PortView W)
  pub weight : ℕ
  pub counts : List ℕ
  pub run : ℕ
  pub version : ℕ

-- its trail is legal within the limits, and each stream has its closing record alone left to raise, or nothing
pub record IsWatch {W : Type 0} (w : WatchView W) : Type 0 where
  pub within : IsSetup w.monitor.setup
  pub legal : IsLegal w.monitor.setup w.monitor.trail
  pub waits : IsWaiting w.monitor.setup w.monitor.trail
  pub weighs : IsWeighed w.monitor.setup w.weight
  pub number : (0 < w.monitor.setup.number) × (w.monitor.setup.number ≤ 64)
  pub counts : length w.counts ≡ length w.monitor.setup.parts
  pub version : IsVersion w.version

-- what no call changes: its number, the size of its catalogue, how many streams it has, its run, and the version of its frames
pub record Named : Type 0 where
  pub number : ℕ
  pub objects : ℕ
  pub streams : ℕ
  pub run : ℕ
  pub version : ℕ

-- these of a watch
abbrev pub named_of : {W : Type 0} → WatchView W → Named
named_of w = record {
  number = w.monitor.setup.number;
  objects = w.monitor.setup.objects;
  streams = length w.monitor.setup.parts;
  run = w.run;
  version = w.version;
}

-- a monitor over streams that gave nothing yet: each has its closing record
abbrev pub unfed : Setup → ℕ → ℕ → MonitorView
unfed settings number streams = made settings number (replicate streams (closing ∷ [])) (replicate streams 0)

-- a watch that was told nothing
abbrev pub fresh : {W : Type 0} → Setup → ℕ → ℕ → ℕ → ℕ → WatchView W
fresh settings number streams run version = record {
  monitor = unfed settings number streams;
  port = None;
  weight = 0;
  counts = replicate streams 0;
  run = run;
  version = version;
}

-- a watch whose monitor began anew, and is not connected
abbrev pub refilled : {W : Type 0} → WatchView W → WatchView W
refilled w = record w { monitor = begun w.monitor; port = None; weight = size_of_values w.monitor.setup w.monitor.trail }

-- the port of a monitor that is connected, and has said nothing but Hello
pub record IsFreshPort {W : Type 0} (w : WatchView W) (p : PortView W) : Type 0 where
  pub run : p.run ≡ w.run
  pub monitor : p.monitor ≡ w.monitor
  pub version : p.link.version ≡ w.version
  pub course : p.course ≡ course.Open

-- it begins a connection: its monitor begins anew, at its end of that
pub record Begins {W : Type 0} (old new : WatchView W) : Type 0 where
  pub port : PortView W
  pub joined : new ≡ record (refilled old) { port = Some port }
  pub is_fresh : IsFreshPort new port

-- a connection shows that it is over for this cause
abbrev pub Shows : {W : Type 0} → Cause → Option (PortView W) → Type 0
Shows c.Link port = ⊤
Shows c.Refused None = ⊥
Shows c.Refused (Some p) = (why : _) × (p.course ≡ course.Refused why)
Shows c.Bad None = ⊥
Shows c.Bad (Some p) = (fault : _) × (p.course ≡ course.Bad fault)
Shows c.Full None = ⊤
Shows c.Full (Some p) = most_bytes < frames_size p.monitor.trail
Shows c.Memory port = ⊤

-- what a look at a connection says of what it left
abbrev pub Tells : {W : Type 0} → Turned → WatchView W → Type 0
Tells t.More w = ⊤
Tells t.Quiet w = ⊤
Tells t.Stopped w = is_stopped w.monitor.trail ≡ true
Tells (t.Left cause) w = Shows cause w.port

-- a port is a watch's end of its connection: what came and went by it is what its monitor took and sent, as a port keeps it
pub record IsEndOf {W : Type 0} (w : WatchView W) (port : PortView W) : Type 0 where
  pub monitor : port.monitor ≡ w.monitor
  pub kept : IsPort port

-- a watch is connected
pub record IsConnected {W : Type 0} (w : WatchView W) : Type 0 where
  pub port : PortView W
  pub joined : w.port ≡ Some port
  pub end : IsEndOf w port

-- a look leaves the watch at its end of the connection, if it had one; where that goes on it has
abbrev pub KeepsPort : {W : Type 0} → Turned → WatchView W → Type 0
KeepsPort t.More w = IsConnected w
KeepsPort t.Quiet w = IsConnected w
KeepsPort t.Stopped w = IsConnected w
KeepsPort (t.Left cause) w = IfSome w.port (IsEndOf w)

-- a look at a connection: the monitor took frames and was checked, and what no frame changes stays
pub record Turns {W : Type 0} (turned : Turned) (old new : WatchView W) : Type 0 where
  pub reaches : Reaches old.monitor new.monitor
  pub tells : Tells turned new
  pub room : KeepsRoom turned new.monitor.trail
  pub end : KeepsPort turned new
  pub rest : new ≡ record old { monitor = new.monitor; port = new.port }
