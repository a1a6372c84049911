-- The ends of a run's links as each node kept them: what was sent and received on each link, and what differs there.
use Rattle.std.specs.Prelude.{ℕ, ◌≡◌, ◌≢◌, ◌≤◌, ◌<◌, ◌-◌, ◌==◌, if◌then◌else◌, List, [], ◌∷◌, ◌++◌, length, map, take, slice_get, slice_index_or, Option, Some, None, ⊤}
use Rattle.std.specs.Option.{ForSome, option_map}
use Rattle.tk_base.specs.History.{IsFront}
use Rattle.tk_base.specs.Settings.{Setup}
use Rattle.tk_base.specs.declared.ids.Mon.{Mon}
use Rattle.tk_frames.specs.declared.frame.Frame.{Frame}
use Rattle.tk_input.specs.Logs.{IsCut, LogSet, parts_of, places_of}
use Rattle.tk_journal.specs.Laws.{IsMonitor}
use Rattle.tk_journal.specs.Legal.{opened, start}
use Rattle.tk_journal.specs.Links.{frames_from, frames_to}
use Rattle.tk_journal.specs.Readings.{monitors as numbers}
use Rattle.tk_journal.specs.declared.noted.Noted.{Noted}
use Rattle.tk_monitor.specs.Monitored.{MonitorView, made}
use Rattle.tk_trail.specs.Readings.{sent_by, taken_by}
use Rattle.tk_trail.specs.declared.entry.Entry.{Entry}
use Rattle.tk_story.specs.Odd.{IsOddDown, IsOddUp}
use Rattle.tk_story.specs.Story.{AreHistories, StoryView, setup_of}
use Rattle.tk_story.specs.declared.ends.coord_end.CoordEnd.{CoordEnd}
use Rattle.tk_story.specs.declared.ends.difference.Difference.{Difference}
use Rattle.tk_story.specs.declared.ends.difference.Direction.{Direction}
use Rattle.tk_story.specs.declared.ends.difference.Direction.TheVariants.{UpLink, DownLink}
use Rattle.tk_story.specs.declared.ends.join_fault.JoinFault.{JoinFault}
use Rattle.tk_story.specs.declared.ends.join_fault.JoinFault.TheVariants.{Differs, NoMemory}
use Rattle.tk_story.specs.declared.ends.mon_end.MonEnd.{MonEnd}
use Rattle.tk_story.specs.declared.ends.received.Received.{Received}
use Rattle.tk_story.specs.declared.ends.received.Received.TheVariants as r

-- ---- a link

-- what one end of a link sent, and what the other received
pub record KeptLink : Type 0 where
  pub sent : List Frame
  pub received : List Received

-- what was received on a link is a front of what was sent
abbrev pub IsOrdered : KeptLink → Type 0
IsOrdered link = IsFront link.received (map r.Frame link.sent)

-- at the first place from 0 where the two differ this was received, and that was sent, if something was
pub record IsFirstDifference (link : KeptLink) (place : ℕ) (sent : Option Frame) (received : Received) : Type 0 where
  pub same : take place link.received ≡ map r.Frame (take place link.sent)
  pub sent_is : slice_get link.sent place ≡ sent
  pub received_is : slice_get link.received place ≡ Some received
  pub other : option_map r.Frame sent ≢ Some received

-- frames that were taken, and what was received behind them and not taken
abbrev pub with_odd : List Frame → Option Received → List Received
with_odd frames None = map r.Frame frames
with_odd frames (Some odd) = map r.Frame frames ++ odd ∷ []

-- what is odd, where it was received of this monitor
abbrev pub odd_from : ℕ → Option (Mon × Received) → Option Received
odd_from mon None = None
odd_from mon (Some (from, received)) = if from.0 == mon then Some received else None

-- the link of a monitor up, from its trail to the journal
abbrev pub up_link : ℕ → List Noted → Option (Mon × Received) → List Entry → KeptLink
up_link mon journal odd trail = record { sent = sent_by trail; received = with_odd (frames_from mon journal) (odd_from mon odd) }

-- the link of a monitor down, from the journal to its trail
abbrev pub down_link : ℕ → List Noted → List Entry → Option Received → KeptLink
down_link mon journal trail odd = record { sent = frames_to mon journal; received = with_odd (taken_by trail) odd }

-- ---- all links of a run

-- what the coordinator and its monitors kept, and what each of them received next and did not take
pub record KeptEnds : Type 0 where
  pub settings : Setup
  pub journal : List Noted
  pub odd : Option (Mon × Received)
  pub trails : List (List Entry)
  pub odds : List (Option Received)

-- the same by the end of the coordinator and the ends of the monitors, ascending
abbrev pub kept_by : CoordEnd → List MonEnd → KeptEnds
kept_by coordinator monitors = record {
  settings = coordinator.coordinator.settings;
  journal = coordinator.coordinator.journal;
  odd = coordinator.odd;
  trails = map (λ end. end.monitor.trail) monitors;
  odds = map (λ end. end.odd) monitors;
}

-- the trail that a monitor kept
abbrev pub trail_at : KeptEnds → ℕ → List Entry
trail_at ends mon = slice_index_or ends.trails (mon - 1) []

-- what a monitor received next and did not take, if there was something
abbrev pub odd_at : KeptEnds → ℕ → Option Received
odd_at ends mon = slice_index_or ends.odds (mon - 1) None

-- the link of a monitor in a direction
abbrev pub link_at : KeptEnds → ℕ → Direction → KeptLink
link_at ends mon UpLink = up_link mon ends.journal ends.odd (trail_at ends mon)
link_at ends mon DownLink = down_link mon ends.journal (trail_at ends mon) (odd_at ends mon)

-- every link is ordered, with what is odd as the last that was received
abbrev pub AreOrdered : KeptEnds → Type 0
AreOrdered ends = (mon : ℕ) (direction : Direction) → IsMonitor ends.settings mon → IsOrdered (link_at ends mon direction)

-- links are looked at by monitor, and the link up before the one down
abbrev pub IsBefore : ℕ → Direction → ℕ → Direction → Type 0
IsBefore first UpLink mon UpLink = first < mon
IsBefore first UpLink mon DownLink = first ≤ mon
IsBefore first DownLink mon UpLink = first < mon
IsBefore first DownLink mon DownLink = first < mon

-- the first difference of all: that of the first link that is not ordered
pub record IsFirstOfAll (ends : KeptEnds) (mon : ℕ) (direction : Direction) (place : ℕ) (sent : Option Frame) (received : Received) : Type 0 where
  pub monitor : IsMonitor ends.settings mon
  pub here : IsFirstDifference (link_at ends mon direction) place sent received
  pub before : (m : ℕ) (d : Direction) → IsMonitor ends.settings m → IsBefore m d mon direction → IsOrdered (link_at ends m d)

-- some link is not ordered, so one of them is the first that is not
pub record HaveDifference (ends : KeptEnds) : Type 0 where
  pub mon : ℕ
  pub direction : Direction
  pub place : ℕ
  pub sent : Option Frame
  pub received : Received
  pub first : IsFirstOfAll ends mon direction place sent received

-- a difference is the first of all
abbrev pub IsFirst : KeptEnds → Difference → Type 0
IsFirst ends found = IsFirstOfAll ends found.mon.0 found.direction found.place found.sent found.received

-- what a fault says of ends
abbrev pub TellsDifference : KeptEnds → JoinFault → Type 0
TellsDifference ends (Differs difference) = IsFirst ends difference
TellsDifference ends NoMemory = ⊤

-- ---- what can be joined

-- a monitor as it was made, before it did anything
abbrev pub as_made : MonitorView → MonitorView
as_made monitor = record monitor { trail = [] }

-- the monitor of a number as a run makes it: with these settings, its parts and its starting places
abbrev pub made_for : Setup → LogSet → List (List ℕ) → ℕ → MonitorView
made_for settings logs from mon = made settings mon (parts_of logs.logs mon) (places_of from mon)

-- all of them, ascending
abbrev pub all_made_for : Setup → LogSet → List (List ℕ) → List MonitorView
all_made_for settings logs from = map (made_for settings logs from) (numbers settings)

-- ends of one run: the coordinator was made with these settings, and its journal begins with the start; logs and
-- starting places are of these settings; and the monitors are 1 to m, made with the settings, their parts and places
pub record AreOfOneRun (coordinator : CoordEnd) (ends : List MonEnd) (logs : LogSet) (settings : Setup) (from : List (List ℕ)) : Type 0 where
  pub made : coordinator.coordinator.settings ≡ settings
  pub begins : IsFront (opened (start settings)) coordinator.coordinator.journal
  pub objects : logs.objects ≡ settings.objects
  pub logged : length logs.logs ≡ settings.monitors
  pub starts : IsCut logs.logs from
  pub monitors : map (λ end. as_made end.monitor) ends ≡ all_made_for settings logs from

-- the lists of ends, as a story
abbrev pub joined : KeptEnds → LogSet → List (List ℕ) → StoryView
joined ends logs from = record {
  settings = ends.settings;
  logs = logs;
  from = from;
  journal = ends.journal;
  trails = ends.trails;
}

-- ---- what is odd

-- ends of legal histories, where what is odd is not taken by the node that received it
pub record AreKept (ends : KeptEnds) (logs : LogSet) (from : List (List ℕ)) : Type 0 where
  pub histories : AreHistories (joined ends logs from)
  pub odd : ForSome ends.odd (IsOddUp ends.settings ends.journal)
  pub odds : (mon : ℕ) → IsMonitor ends.settings mon → ForSome (odd_at ends mon) (IsOddDown (setup_of (joined ends logs from) mon) (trail_at ends mon))

-- no end has anything odd
pub record HaveNothingOdd (ends : KeptEnds) : Type 0 where
  pub coordinator : ends.odd ≡ None
  pub monitors : (mon : ℕ) → IsMonitor ends.settings mon → odd_at ends mon ≡ None
