-- A coordinator and its monitors as a world sees them, and what a step of one of them leaves.
use Rattle.std.specs.Prelude.{ℕ, ◌≡◌, ◌+◌, ◌-◌, ◌≤◌, pos, List, ◌++◌, length, map, set, slice_get, slice_index_or, Some, None}
use Rattle.tk_base.specs.Settings.{Setup}
use Rattle.tk_base.specs.declared.ids.Feeder.{Feeder}
use Rattle.tk_base.specs.declared.ids.Mon.{Mon}
use Rattle.tk_coord.specs.Coordinator.{CoordinatorView}
use Rattle.tk_frames.specs.declared.frame.Frame.{Frame}
use Rattle.tk_input.specs.Logs.{LogSet, parts_of, places_of}
use Rattle.tk_journal.specs.Laws.{IsMonitor}
use Rattle.tk_journal.specs.Legal.{opened, start, turn_of}
use Rattle.tk_journal.specs.Links.{frames_to}
use Rattle.tk_journal.specs.Readings.{monitors}
use Rattle.tk_journal.specs.Refusal.{refusal_of}
use Rattle.tk_journal.specs.declared.noted.Noted.{Noted}
use Rattle.tk_journal.specs.declared.noted.Noted.TheVariants as n
use Rattle.tk_monitor.specs.Monitored.{MonitorView, Raises, made}
use Rattle.tk_monitor.specs.declared.outcome.Raised.{Raised}
use Rattle.tk_trail.specs.Readings.{sent_by}
use Rattle.tk_trail.specs.Refusal.{refusal_of as monitor_refusal_of}
use Rattle.tk_monitor.specs.Stepped.{checking, taking}
use Rattle.tk_world.specs.declared.seat.Seat.{Seat}

-- the coordinator, and each monitor with how far its two links were walked
pub record NodesView : Type 0 where
  pub coordinator : CoordinatorView
  pub seats : List Seat

-- there is such a monitor, and its seat
pub record HasSeat (nodes : NodesView) (mon : ℕ) : Type 0 where
  pub monitor : IsMonitor nodes.coordinator.settings mon
  pub seated : mon ≤ length nodes.seats

-- a fact of the seat of a monitor
abbrev pub AtSeat : NodesView → ℕ → (Seat → Type 0) → Type 0
AtSeat nodes mon Fact = (d : Seat) → Fact (slice_index_or nodes.seats (mon - 1) d)

-- how many frames the coordinator sent to a monitor
abbrev pub sent_to : NodesView → ℕ → ℕ
sent_to nodes mon = length (frames_to mon nodes.coordinator.journal)

-- the nodes with another seat of a monitor
abbrev pub with_seat : NodesView → ℕ → Seat → NodesView
with_seat nodes mon seat = record nodes { seats = set nodes.seats (mon - 1) seat }

-- the coordinator with one more turn: what an input brings about
abbrev pub with_input : CoordinatorView → Noted → CoordinatorView
with_input c input = record c { journal = c.journal ++ turn_of c.settings c.journal input }

-- a check at a seat
abbrev pub ChecksAt : ℕ → NodesView → NodesView → Seat → Type 0
ChecksAt mon old new seat = new ≡ with_seat old mon (record seat { monitor = checking seat.monitor })

-- a raise at a seat
pub record RaisesAt (mon : ℕ) (feeder : Feeder) (raised : Raised) (old new : NodesView) (seat : Seat) : Type 0 where
  pub monitor : MonitorView
  pub answer : Raises seat.monitor feeder raised monitor
  pub is : new ≡ with_seat old mon (record seat { monitor = monitor })

-- the next frame of a monitor is under way, and the coordinator does not refuse it
pub record CanGoUp (nodes : NodesView) (mon : ℕ) (seat : Seat) : Type 0 where
  pub frame : Frame
  pub next : slice_get (sent_by seat.monitor.trail) seat.got ≡ Some frame
  pub accepted : refusal_of nodes.coordinator.settings nodes.coordinator.journal mon frame ≡ None

-- the coordinator takes it
pub record GoesUp (mon : Mon) (old new : NodesView) (seat : Seat) : Type 0 where
  pub frame : Frame
  pub next : slice_get (sent_by seat.monitor.trail) seat.got ≡ Some frame
  pub is : new ≡ record {
    coordinator = with_input old.coordinator (n.Got mon frame);
    seats = set old.seats (mon.0 - 1) (record seat { got = seat.got + 1 });
  }

-- the next frame to a monitor is under way, and the monitor does not refuse it
pub record CanGoDown (nodes : NodesView) (mon : ℕ) (seat : Seat) : Type 0 where
  pub frame : Frame
  pub next : slice_get (frames_to mon nodes.coordinator.journal) seat.taken ≡ Some frame
  pub accepted : monitor_refusal_of seat.monitor.setup seat.monitor.trail frame ≡ None

-- the monitor takes it
pub record GoesDown (mon : ℕ) (old new : NodesView) (seat : Seat) : Type 0 where
  pub frame : Frame
  pub next : slice_get (frames_to mon old.coordinator.journal) seat.taken ≡ Some frame
  pub is : new ≡ with_seat old mon (record seat { monitor = taking seat.monitor frame; taken = seat.taken + 1 })

-- the nodes once the coordinator is retuned
abbrev pub retuned : NodesView → ℕ → ℕ → NodesView
retuned nodes k epsilon = record nodes { coordinator = with_input nodes.coordinator (n.Tuned k (pos epsilon)) }

-- a monitor that has taken and sent nothing, from its places of a cut on
abbrev pub fresh_seat : Setup → LogSet → List (List ℕ) → ℕ → Seat
fresh_seat settings logs from mon = record {
  monitor = made settings mon (parts_of logs.logs mon) (places_of from mon);
  taken = 0;
  got = 0;
}

-- those of all monitors
abbrev pub fresh_seats : Setup → LogSet → List (List ℕ) → List Seat
fresh_seats settings logs from = map (fresh_seat settings logs from) (monitors settings)

-- nodes in which nothing has happened but the opening
pub record IsFresh (nodes : NodesView) (logs : LogSet) (from : List (List ℕ)) : Type 0 where
  pub journal : nodes.coordinator.journal ≡ opened (start nodes.coordinator.settings)
  pub seats : nodes.seats ≡ fresh_seats nodes.coordinator.settings logs from
