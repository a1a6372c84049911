-- The connection of a monitor to the coordinator, and histories whose monitors are all connected.
use Rattle.std.specs.Prelude.{ℕ, ◌≡◌, ◌⊎◌, true, List, [], ◌∷◌, take}
use Rattle.tk_frames.specs.declared.frame.Frame.{Frame}
use Rattle.tk_frames.specs.declared.frame.Frame.TheVariants as f
use Rattle.tk_wire.specs.Joint.{BeginsWith}
use Rattle.tk_end.specs.Link.{IsEnd, LinkView}
use Rattle.tk_journal.specs.Laws.{IsMonitor}
use Rattle.tk_journal.specs.Links.{frames_from, frames_to}
use Rattle.tk_journal.specs.declared.noted.Noted.{Noted}
use Rattle.tk_trail.specs.Readings.{sent_by, taken_by}
use Rattle.tk_trail.specs.declared.entry.Entry.{Entry}
use Rattle.tk_story.specs.Story.{AreHistories, StoryView, trail_of}
use Rattle.tk_apart.specs.Carried.{IsCarried}

-- what a monitor says of itself first
abbrev pub hello : ℕ → ℕ → ℕ → Frame
hello run version mon = f.Hello run version (record { 0 = mon })

-- up go a Hello and frames that the monitor sent, down go frames that were sent to it
pub record IsConnection (run : ℕ) (journal : List Noted) (mon : ℕ) (trail : List Entry) : Type 0 where
  pub version : ℕ
  pub written_up : ℕ
  pub written_down : ℕ
  pub up : IsCarried version (hello run version mon ∷ take written_up (sent_by trail)) (hello run version mon ∷ frames_from mon journal)
  pub down : IsCarried version (take written_down (frames_to mon journal)) (taken_by trail)

-- a monitor has its connection, or nothing was heard at either end yet
abbrev pub IsConnected : ℕ → List Noted → ℕ → List Entry → Type 0
IsConnected run journal mon trail = IsConnection run journal mon trail ⊎ ((frames_from mon journal ≡ []) × (taken_by trail ≡ []))

-- two ends that tell their bytes: what came at each is a front of what the other was given
pub record AreEnds {V W : Type 0} (run : ℕ) (journal : List Noted) (mon : ℕ) (trail : List Entry) (port : LinkView V) (seat : LinkView W) : Type 0 where
  pub version : seat.version ≡ port.version
  pub tells_port : port.tells ≡ true
  pub tells_seat : seat.tells ≡ true
  pub at_port : IsEnd port (taken_by trail) (hello run port.version mon ∷ take port.written (sent_by trail))
  pub at_seat : IsEnd seat (hello run seat.version mon ∷ frames_from mon journal) (take seat.written (frames_to mon journal))
  pub up : BeginsWith seat.traffic.came port.traffic.went
  pub down : BeginsWith port.traffic.came seat.traffic.went

-- such ends are connected
abbrev pub EndsThatTellAreConnected : Type 0 → Type 0 → Type 0
EndsThatTellAreConnected V W =
    (run : ℕ) (journal : List Noted) (mon : ℕ) (trail : List Entry) (port : LinkView V) (seat : LinkView W)
    → AreEnds run journal mon trail port seat → IsConnection run journal mon trail

-- legal histories whose monitors are all connected
pub record AreConnected (s : StoryView) (run : ℕ) : Type 0 where
  pub histories : AreHistories s
  pub each : (mon : ℕ) → IsMonitor s.settings mon → IsConnected run s.journal mon (trail_of s mon)
