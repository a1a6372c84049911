-- How a line is made: a monitor says its Hello, which goes over the line, and is admitted. No public clause cites it.
use Rattle.std.specs.Prelude.{◌≡◌, ◌<◌, ◌≤◌, ◌+◌, ◌-◌, ℕ, List, [], length, None, slice_index_or, true}
use Rattle.slab.specs.Slab.{Slab, get}
use Rattle.tk_frames.specs.Spelling.{IsSpelling, spelling}
use Rattle.tk_wire.specs.Joint.{Joins}
use Rattle.tk_wire.specs.Meanings.{Traffic}
use Rattle.tk_wire.specs.SureWire.{SureView}
use Rattle.tk_port.specs.Port.{IsPort, PortView, hello_of}
use Rattle.tk_port.specs.declared.course.Course.TheVariants as c
use Rattle.tk_hub.specs.Hub.{HubView, IsHub, door_of, with_door}
use Rattle.tk_hub.specs.Seats.{IsFree, link_at}
use Rattle.tk_hub.specs.Visitor.{VisitorView}
use Rattle.tk_hub.specs.declared.course.Course.TheVariants as cs
use Rattle.tk_bytes.specs.Way.{IsSure}
use Rattle.tk_bytes.specs.Wired.{IsWalked}
use Rattle.tk_bytes.specs.declared.line.Line.{Line}
use Rattle.tk_bytes.specs.declared.walked.Walked.{Walked}

-- the bytes of the Hello with which a port begins, which are the same in both versions
abbrev pub hello_in : PortView SureView → List ℕ
hello_in port = spelling 1 (hello_of port)

-- a wire on which these bytes wait, and which nothing else has passed
abbrev pub waiting_on : ℕ → List ℕ → Traffic
waiting_on room bytes = record { came = []; waiting = bytes; went = []; held = []; room = room }

-- a line whose port has said its Hello and nothing else, and has heard nothing; both pipes are empty
pub record IsOpening (line : Line) : Type 0 where
  pub port_is : IsPort line.port
  pub open_port : line.port.course ≡ c.Open
  pub run : line.port.run ≡ 1
  pub trail : line.port.monitor.trail ≡ []
  pub tells : line.port.link.tells ≡ true
  pub sure : IsSure line.port.link.counts
  pub hello : IsSpelling 1 (hello_of line.port) (hello_in line.port)
  pub went : line.port.link.traffic.went ≡ hello_in line.port
  pub came : line.port.link.traffic.came ≡ []
  pub waiting : line.port.link.traffic.waiting ≡ []
  pub room : 0 < line.port.link.traffic.room
  pub up : line.up.bytes ≡ []
  pub down : line.down.bytes ≡ []
  pub room_up : 0 < line.up.room
  pub room_down : 0 < line.down.room

-- the frames of a line go in this version, and its pipes have room for a piece
pub record IsOver (piece version : ℕ) (line : Line) : Type 0 where
  pub version_is : line.port.link.version ≡ version
  pub up : line.up.room ≡ piece
  pub down : line.down.room ≡ piece

-- so many bytes of its Hello wait on a wire at the other end
pub record HasCarried (count : ℕ) (line : Line) (wire : SureView) : Type 0 where
  pub opening : IsOpening line
  pub came : wire.traffic.came ≡ []
  pub went : wire.traffic.went ≡ []
  pub held : wire.traffic.held ≡ []
  pub room : wire.traffic.room ≡ 4096
  pub joins : Joins line.port.link.traffic wire.traffic []
  pub count_is : count + length line.port.link.traffic.held ≡ 18

-- nobody waits for admission
abbrev pub IsNobody : Slab (VisitorView SureView) → Type 0
IsNobody held = (key : ℕ) → get held key ≡ None

-- an open hub of the run, at which nobody waits, and the seat of the monitor is free
pub record CanJoin (mon : ℕ) (hub : HubView SureView) : Type 0 where
  pub hub_is : IsHub hub
  pub going : hub.course ≡ cs.Open
  pub run : hub.run ≡ 1
  pub nobody : IsNobody hub.held
  pub free : IsFree mon hub.coordinator.settings.monitors hub.links

-- the seat of the monitor alone was taken, and again nobody waits
pub record SeatsOne (mon : ℕ) (old new : HubView SureView) : Type 0 where
  pub nobody : IsNobody new.held
  pub rest : new ≡ with_door (door_of new) old
  pub others : (place : ℕ) → (place ≡ mon - 1 → ⊥) → link_at new.links place ≡ link_at old.links place

-- the first so many monitors are at the ends of lines, and those behind them have no seat yet
pub record AreMade (count : ℕ) (hub : HubView SureView) (lines : List Walked) : Type 0 where
  pub hub_is : IsHub hub
  pub going : hub.course ≡ cs.Open
  pub run : hub.run ≡ 1
  pub nobody : IsNobody hub.held
  pub free : (place : ℕ) → count ≤ place → link_at hub.links place ≡ None
  pub size : length lines ≡ count
  pub each : (k : ℕ) (d : Walked) → k < count → IsWalked (k + 1) hub (slice_index_or lines k d)
