-- What a coordinator and a seat alone take. No public clause cites this file.
use Rattle.std.specs.Prelude.{ℕ, ◌≡◌, ◌+◌, slice_get, Some, None}
use Rattle.tk_base.specs.declared.ids.Mon.{Mon}
use Rattle.tk_coord.specs.Coordinator.{CoordinatorView}
use Rattle.tk_frames.specs.declared.frame.Frame.{Frame}
use Rattle.tk_journal.specs.Links.{frames_to}
use Rattle.tk_journal.specs.Refusal.{refusal_of}
use Rattle.tk_journal.specs.declared.noted.Noted.TheVariants as n
use Rattle.tk_trail.specs.Readings.{sent_by}
use Rattle.tk_trail.specs.Refusal.{refusal_of as monitor_refusal_of}
use Rattle.tk_monitor.specs.Stepped.{taking}
use Rattle.tk_world.specs.Nodes.{with_input}
use Rattle.tk_world.specs.declared.seat.Seat.{Seat}

-- the next frame of a seat is under way, and the coordinator does not refuse it
pub record CanTakeUp (coordinator : CoordinatorView) (mon : ℕ) (seat : Seat) : Type 0 where
  pub frame : Frame
  pub next : slice_get (sent_by seat.monitor.trail) seat.got ≡ Some frame
  pub accepted : refusal_of coordinator.settings coordinator.journal mon frame ≡ None

-- the coordinator takes it
pub record TakesUp (mon : Mon) (old new : CoordinatorView) (before after : Seat) : Type 0 where
  pub frame : Frame
  pub next : slice_get (sent_by before.monitor.trail) before.got ≡ Some frame
  pub coordinator : new ≡ with_input old (n.Got mon frame)
  pub seat : after ≡ record before { got = before.got + 1 }

-- the next frame to a seat is under way, and its monitor does not refuse it
pub record CanTakeDown (coordinator : CoordinatorView) (mon : ℕ) (seat : Seat) : Type 0 where
  pub frame : Frame
  pub next : slice_get (frames_to mon coordinator.journal) seat.taken ≡ Some frame
  pub accepted : monitor_refusal_of seat.monitor.setup seat.monitor.trail frame ≡ None

-- the monitor takes it
pub record TakesDown (mon : ℕ) (coordinator : CoordinatorView) (before after : Seat) : Type 0 where
  pub frame : Frame
  pub next : slice_get (frames_to mon coordinator.journal) before.taken ≡ Some frame
  pub seat : after ≡ record before { monitor = taking before.monitor frame; taken = before.taken + 1 }
