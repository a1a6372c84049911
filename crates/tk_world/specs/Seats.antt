-- What the fields of a world keep of its story. No public clause cites this file.
use Rattle.std.specs.Prelude.{ℕ, ◌≡◌, ◌+◌, ◌-◌, ◌<◌, Bool, not, ◌&&◌, nat_le, true, false, List, length, map, None, sum_by, slice_get, slice_index_or}
use Rattle.std.specs.List.{range_with_len}
use Rattle.tk_base.specs.Settings.{Setup}
use Rattle.tk_input.specs.Logs.{LogSet, parts_of, places_of}
use Rattle.tk_journal.specs.Laws.{IsMonitor}
use Rattle.tk_journal.specs.Links.{frames_from, frames_to}
use Rattle.tk_journal.specs.declared.noted.Noted.{Noted}
use Rattle.tk_monitor.specs.Kept.{left_in}
use Rattle.tk_monitor.specs.Monitored.{checked_at}
use Rattle.tk_monitor.specs.declared.outcome.Checked.{Checked}
use Rattle.tk_monitor.specs.declared.outcome.Checked.TheVariants.{Reported, ToldEnd, Nothing}
use Rattle.tk_trail.specs.Frames.{due_at}
use Rattle.tk_trail.specs.Readings.{is_broken, places_at, sent_by, taken_by}
use Rattle.tk_trail.specs.Setup.{MonitorSetup}
use Rattle.tk_trail.specs.declared.entry.Entry.{Entry}
use Rattle.tk_story.specs.Story.{IsStory, StoryView, setup_of, trail_of}
use Rattle.tk_world.specs.Nodes.{NodesView}
use Rattle.tk_world.specs.Work.{has}
use Rattle.tk_world.specs.declared.seat.Seat.{Seat}
use Rattle.tk_world.specs.declared.work.Work.{Work}

-- the trails of some seats
abbrev pub trails_of : List Seat → List (List Entry)
trails_of seats = map (λ seat. seat.monitor.trail) seats

-- the story of a journal and of the seats beside it
abbrev pub story_in : Setup → LogSet → List (List ℕ) → List Noted → List Seat → StoryView
story_in settings logs from journal seats = record {
  settings = settings;
  logs = logs;
  from = from;
  journal = journal;
  trails = trails_of seats;
}

-- the same of nodes
abbrev pub story_with : NodesView → LogSet → List (List ℕ) → StoryView
story_with nodes logs from = story_in nodes.coordinator.settings logs from nodes.coordinator.journal nodes.seats

-- how many changes a seat has left
abbrev pub left_at : Seat → ℕ
left_at seat = left_in seat.monitor.setup.parts (places_at seat.monitor.setup seat.monitor.trail)

-- nothing is on the links of a seat, where the coordinator sent it so many frames
abbrev pub are_links_empty : ℕ → Seat → Bool
are_links_empty sent seat = nat_le sent seat.taken && nat_le (length (sent_by seat.monitor.trail)) seat.got

-- and besides nothing is broken there
abbrev pub is_quiet_seat : ℕ → Seat → Bool
is_quiet_seat sent seat = are_links_empty sent seat && not (is_broken seat.monitor.setup seat.monitor.trail)

-- whether the seat of monitor k + 1 is quiet beside a journal
abbrev pub is_quiet_at : List Noted → List Seat → ℕ → Seat → Bool
is_quiet_at journal seats k d = is_quiet_seat (length (frames_to (k + 1) journal)) (slice_index_or seats k d)

-- each of these seats is quiet beside a journal
abbrev pub AreQuiet : List Noted → List Seat → Type 0
AreQuiet journal seats = (k : ℕ) (d : Seat) → k < length seats → is_quiet_at journal seats k d ≡ true

-- one of these seats is not quiet beside a journal
abbrev pub IsOneUnquiet : List Noted → List Seat → Type 0
IsOneUnquiet journal seats = (k : ℕ) × (d : Seat) × (k < length seats) × (is_quiet_at journal seats k d ≡ false)

-- whether a check sends nothing
abbrev pub sends_nothing : Checked → Bool
sends_nothing Reported = false
sends_nothing ToldEnd = false
sends_nothing Nothing = true

-- nothing is on the links of a seat, and a check sends nothing there
abbrev pub is_resting_seat : ℕ → Seat → Bool
is_resting_seat sent seat = are_links_empty sent seat && sends_nothing (checked_at seat.monitor.setup seat.monitor.trail)

-- whether the seat of monitor k + 1 rests beside a journal
abbrev pub is_resting_at : List Noted → List Seat → ℕ → Seat → Bool
is_resting_at journal seats k d = is_resting_seat (length (frames_to (k + 1) journal)) (slice_index_or seats k d)

-- each of these seats that is of a set rests beside a journal
abbrev pub AreResting : List Noted → Work → List Seat → Type 0
AreResting journal work seats = (k : ℕ) (d : Seat) → k < length seats → has work (k + 1) ≡ true → is_resting_at journal seats k d ≡ true

-- one of these seats that is of a set does not rest beside a journal
abbrev pub IsOneAtWork : List Noted → Work → List Seat → Type 0
IsOneAtWork journal work seats = (k : ℕ) × (d : Seat) × (k < length seats) × (has work (k + 1) ≡ true) × (is_resting_at journal seats k d ≡ false)

-- how many changes the monitors of some logs have left behind a cut
abbrev pub left_behind : LogSet → List (List ℕ) → ℕ
left_behind logs from = sum_by (λ mon. left_in (parts_of logs.logs mon) (places_of from mon)) (range_with_len 1 (length logs.logs))

-- how far each feeder of a seat is
abbrev pub places_in : Seat → List ℕ
places_in seat = places_at seat.monitor.setup seat.monitor.trail

-- the seat of a monitor: what its monitor is made of, and how far its links were walked
pub record IsSeat (s : StoryView) (mon : ℕ) (seat : Seat) : Type 0 where
  pub setup : seat.monitor.setup ≡ setup_of s mon
  pub taken : seat.taken ≡ length (taken_by seat.monitor.trail)
  pub got : seat.got ≡ length (frames_from mon s.journal)

-- nothing is due at the end of a trail, and both links beside the journal are empty
pub record IsResting (setup : MonitorSetup) (trail : List Entry) (journal : List Noted) (mon : ℕ) : Type 0 where
  pub due : due_at setup trail ≡ None
  pub down : slice_get (frames_to mon journal) (length (taken_by trail)) ≡ None
  pub up : slice_get (sent_by trail) (length (frames_from mon journal)) ≡ None

-- the fields are what the story gives, which is legal; there is room for the raises that are left, and each monitor
-- that is not among those at work rests
pub record Holds (settings : Setup) (logs : LogSet) (from : List (List ℕ)) (journal : List Noted) (seats : List Seat) (raises : ℕ) (work : Work) : Type 0 where
  pub story : IsStory (story_in settings logs from journal seats)
  pub seats_are : (mon : ℕ) (d : Seat) → IsMonitor settings mon → IsSeat (story_in settings logs from journal seats) mon (slice_index_or seats (mon - 1) d)
  pub room : raises ≡ sum_by left_at seats
  pub within : (mon : ℕ) → has work mon ≡ true → IsMonitor settings mon
  pub resting : (mon : ℕ) → IsMonitor settings mon → has work mon ≡ false
      → IsResting (setup_of (story_in settings logs from journal seats) mon) (trail_of (story_in settings logs from journal seats) mon) journal mon

-- the same of nodes
abbrev pub HoldsWith : NodesView → LogSet → List (List ℕ) → ℕ → Work → Type 0
HoldsWith nodes logs from raises work = Holds nodes.coordinator.settings logs from nodes.coordinator.journal nodes.seats raises work
