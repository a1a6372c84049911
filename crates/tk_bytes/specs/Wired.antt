-- A coordinator and its monitors at the ends of wires in memory.
use Rattle.std.specs.Prelude.{◌≡◌, ◌<◌, ◌+◌, ℕ, List, length, map, slice_index_or}
use Rattle.tk_journal.specs.Links.{frames_from}
use Rattle.tk_trail.specs.Readings.{taken_by}
use Rattle.tk_wire.specs.SureWire.{SureView}
use Rattle.tk_hub.specs.Hub.{HubView}
use Rattle.tk_hub.specs.declared.course.Course.TheVariants as cs
use Rattle.tk_world.specs.Nodes.{NodesView}
use Rattle.tk_world.specs.declared.seat.Seat.{Seat}
use Rattle.tk_bytes.specs.Line.{IsLine}
use Rattle.tk_bytes.specs.declared.walked.Walked.{Walked}

-- a line as a world sees it
abbrev pub seat_of : Walked → Seat
seat_of w = record { monitor = w.line.port.monitor; taken = w.taken; got = w.got }

-- a hub and its lines as a world sees them: its coordinator, with a seat for each line
abbrev pub seen_of : HubView SureView → List Walked → NodesView
seen_of hub lines = record { coordinator = hub.coordinator; seats = map seat_of lines }

-- the line of a monitor, with the counts of the frames that each end took
pub record IsWalked (mon : ℕ) (hub : HubView SureView) (w : Walked) : Type 0 where
  pub line : IsLine mon hub w.line
  pub taken : w.taken ≡ length (taken_by w.line.port.monitor.trail)
  pub got : w.got ≡ length (frames_from mon hub.coordinator.journal)

-- the hub goes on, and there is a line for each monitor
pub record AreWired (hub : HubView SureView) (lines : List Walked) : Type 0 where
  pub going : hub.course ≡ cs.Open
  pub count : length lines ≡ hub.coordinator.settings.monitors
  pub each : (k : ℕ) (d : Walked) → k < length lines → IsWalked (k + 1) hub (slice_index_or lines k d)
