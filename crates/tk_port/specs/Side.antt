-- A monitor as one who takes frames and has frames to send.
use Rattle.std.specs.Prelude.{ℕ, Bool, List, Option}
use Rattle.tk_frames.specs.declared.frame.Frame.{Frame}
use Rattle.tk_trail.specs.Readings.{is_stopped, sent_by, taken_by}
use Rattle.tk_trail.specs.Refusal.{refusal_of}
use Rattle.tk_trail.specs.Setup.{IsSetup}
use Rattle.tk_trail.specs.declared.refusal.MonitorRefusal.{MonitorRefusal}
use Rattle.tk_monitor.specs.Stepped.{taking}
use Rattle.tk_port.specs.declared.side.Side.{Side}

-- the parts and the starting places of the monitor are within their limits
abbrev pub IsSide : ℕ → Side → Type 0
IsSide peer side = IsSetup side.monitor.setup

-- the frames that the monitor took
abbrev pub heard_by : ℕ → Side → List Frame
heard_by peer side = taken_by side.monitor.trail

-- the frames that the monitor sent
abbrev pub said_by : ℕ → Side → List Frame
said_by peer side = sent_by side.monitor.trail

-- whether the monitor took Stop
abbrev pub stops : ℕ → Side → Bool
stops peer side = is_stopped side.monitor.trail

-- which refusal a frame meets at the monitor, if it meets one
abbrev pub refuses : ℕ → Frame → Side → Option MonitorRefusal
refuses peer frame side = refusal_of side.monitor.setup side.monitor.trail frame

-- the side once its monitor has taken a frame
abbrev pub takes : ℕ → Frame → Side → Side
takes peer frame side = record side { monitor = taking side.monitor frame }
