-- The connection of one monitor, and a frame that goes over it.
use Rattle.std.specs.Prelude.{◌≡◌, ◌<◌, ◌-◌, ◌⊎◌, ℕ, List, [], length, set, Bool, true, false, Option, Some, None, Result, IfOk, OnOk, slice_get}
use Rattle.tk_base.specs.declared.memory.NoMemory.{NoMemory}
use Rattle.tk_frames.specs.declared.frame.Frame.{Frame}
use Rattle.tk_coord.specs.Coordinator.{CoordinatorView}
use Rattle.tk_journal.specs.Laws.{IsMonitor}
use Rattle.tk_journal.specs.Links.{frames_from, frames_to}
use Rattle.tk_journal.specs.Refusal.{refusal_of}
use Rattle.tk_monitor.specs.Monitored.{MonitorView}
use Rattle.tk_trail.specs.Readings.{sent_by, taken_by}
use Rattle.tk_trail.specs.Refusal.{refusal_of as monitor_refusal_of}
use Rattle.tk_wire.specs.Buffered.{IsFull}
use Rattle.tk_wire.specs.SureWire.{SureView}
use Rattle.tk_end.specs.Link.{LinkView, Says}
use Rattle.tk_monitor.specs.Stepped.{taking}
use Rattle.tk_port.specs.Port.{IsPort}
use Rattle.tk_port.specs.declared.course.Course.TheVariants as c
use Rattle.tk_hub.specs.Desk.{getting}
use Rattle.tk_hub.specs.Hub.{HubView, IsHub}
use Rattle.tk_hub.specs.Seats.{link_at}
use Rattle.tk_hub.specs.declared.course.Course.TheVariants as cs
use Rattle.tk_bytes.specs.Way.{AreJoined, under_way}
use Rattle.tk_bytes.specs.declared.line.Line.{Line}

-- the ends of a monitor's connection are open, of one run, and joined
pub record IsLine (mon : ℕ) (hub : HubView SureView) (line : Line) : Type 0 where
  pub monitor : IsMonitor hub.coordinator.settings mon
  pub hub_is : IsHub hub
  pub going : hub.course ≡ cs.Open
  pub port_is : IsPort line.port
  pub open_port : line.port.course ≡ c.Open
  pub number : line.port.monitor.setup.number ≡ mon
  pub run : line.port.run ≡ hub.run
  pub link : LinkView SureView
  pub at : link_at hub.links (mon - 1) ≡ Some link
  pub joined : AreJoined line.port.link link line.up line.down

-- the next frame of the monitor, and the coordinator does not refuse it
pub record ComesUp (mon : ℕ) (c : CoordinatorView) (monitor : MonitorView) (frame : Frame) : Type 0 where
  pub next : slice_get (sent_by monitor.trail) (length (frames_from mon c.journal)) ≡ Some frame
  pub accepted : refusal_of c.settings c.journal mon frame ≡ None

-- the next frame to the monitor, and the monitor does not refuse it
pub record ComesDown (mon : ℕ) (c : CoordinatorView) (monitor : MonitorView) (frame : Frame) : Type 0 where
  pub next : slice_get (frames_to mon c.journal) (length (taken_by monitor.trail)) ≡ Some frame
  pub accepted : monitor_refusal_of monitor.setup monitor.trail frame ≡ None

-- all that was sent is written, and given as far as the wire has room
pub record IsSaid {W : Type 0} (said : List Frame) (link : LinkView W) : Type 0 where
  pub written : link.written ≡ length said
  pub given : (link.output ≡ []) ⊎ IsFull link.traffic

-- the hub but for the link of one monitor
pub record KeepsOthers (mon : ℕ) (old new : HubView SureView) : Type 0 where
  pub run : new.run ≡ old.run
  pub others : (place : ℕ) → (place ≡ mon - 1 → ⊥) → link_at new.links place ≡ link_at old.links place

-- how many bytes of one end are said, and not heard at the other, if that is there
abbrev pub left_between : LinkView SureView → Option (LinkView SureView) → List ℕ → ℕ
left_between x None between = 0
left_between x (Some y) between = length (under_way x y between)

-- how many bytes of a monitor are said and not heard
abbrev pub left_up : ℕ → HubView SureView → Line → ℕ
left_up mon hub line = left_between line.port.link (link_at hub.links (mon - 1)) line.up.bytes

-- a piece went up: with it the coordinator took the frame, or fewer bytes are left
abbrev pub MovesUp : ℕ → Frame → Bool → HubView SureView → Line → HubView SureView → Line → Type 0
MovesUp mon frame true old before new now = new.coordinator ≡ getting old.coordinator mon frame
MovesUp mon frame false old before new now = (new.coordinator ≡ old.coordinator) × (left_up mon new now < left_up mon old before)

-- what such a step answers of the next frame of a monitor
abbrev pub StepsUp : ℕ → Result Bool NoMemory → HubView SureView → Line → HubView SureView → Line → Type 0
StepsUp mon result old before new now =
    (frame : Frame)
    → ComesUp mon old.coordinator before.port.monitor frame
    → IfOk result (λ took. MovesUp mon frame took old before new now)

-- the coordinator takes the next frame of a monitor
abbrev pub CarriesUp : ℕ → Result (Unit {0}) NoMemory → HubView SureView → Line → HubView SureView → Type 0
CarriesUp mon result old before new =
    (frame : Frame)
    → ComesUp mon old.coordinator before.port.monitor frame
    → OnOk result (new.coordinator ≡ getting old.coordinator mon frame)

-- ---- the other way

-- all that was sent to a monitor is written to its link
abbrev pub IsWrittenTo : ℕ → HubView SureView → Type 0
IsWrittenTo mon hub = (link : LinkView SureView) → link_at hub.links (mon - 1) ≡ Some link → link.written ≡ length (frames_to mon hub.coordinator.journal)

-- so it is, and given as far as the wire has room
abbrev pub IsSaidTo : ℕ → HubView SureView → Type 0
IsSaidTo mon hub = (link : LinkView SureView) → link_at hub.links (mon - 1) ≡ Some link → IsSaid (frames_to mon hub.coordinator.journal) link

-- of what was sent to a monitor some was written and given
pub record SaysTo (mon : ℕ) (old new : HubView SureView) : Type 0 where
  pub before : LinkView SureView
  pub now : LinkView SureView
  pub was : link_at old.links (mon - 1) ≡ Some before
  pub is : link_at new.links (mon - 1) ≡ Some now
  pub says : Says (frames_to mon old.coordinator.journal) before now
  pub rest : new ≡ record old { links = set old.links (mon - 1) (Some now) }

-- how many bytes of one end, if it is there, are said and not heard at the other
abbrev pub left_behind : Option (LinkView SureView) → LinkView SureView → List ℕ → ℕ
left_behind None y between = 0
left_behind (Some x) y between = length (under_way x y between)

-- how many bytes to a monitor are said and not heard
abbrev pub left_down : ℕ → HubView SureView → Line → ℕ
left_down mon hub line = left_behind (link_at hub.links (mon - 1)) line.port.link line.down.bytes

-- a piece went down: with it the monitor took the frame, or fewer bytes are left
abbrev pub MovesDown : ℕ → Frame → Bool → HubView SureView → Line → HubView SureView → Line → Type 0
MovesDown mon frame true old before new now = now.port.monitor ≡ taking before.port.monitor frame
MovesDown mon frame false old before new now = (now.port.monitor ≡ before.port.monitor) × (left_down mon new now < left_down mon old before)

-- what such a step answers of the next frame to a monitor
abbrev pub StepsDown : ℕ → Result Bool NoMemory → HubView SureView → Line → HubView SureView → Line → Type 0
StepsDown mon result old before new now =
    (frame : Frame)
    → ComesDown mon old.coordinator before.port.monitor frame
    → IfOk result (λ took. MovesDown mon frame took old before new now)

-- a monitor takes the next frame of the coordinator
abbrev pub CarriesDown : ℕ → Result (Unit {0}) NoMemory → HubView SureView → Line → Line → Type 0
CarriesDown mon result old before now =
    (frame : Frame)
    → ComesDown mon old.coordinator before.port.monitor frame
    → OnOk result (now.port.monitor ≡ taking before.port.monitor frame)
