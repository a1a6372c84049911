-- What the drive of an order leads to, and how long a settling is and where it ends.
use Rattle.std.specs.Prelude.{ℕ, if◌then◌else◌, List, [], ◌≡◌, Some, ◌*◌, ◌≤◌, true, length, ◌+◌}
use Rattle.std.specs.List.{list_all}
use Rattle.tk_base.specs.Settings.{Setup}
use Rattle.tk_drain.specs.Drive.{IsReached}
use Rattle.tk_drain.specs.Resting.{RunsFrom}
use Rattle.tk_drain.specs.Settling.{is_settling, events_of}
use Rattle.tk_input.specs.Logs.{LogSet}
use Rattle.tk_input.specs.declared.event.Event.{Event}
use Rattle.tk_journal.specs.Laws.{IsMonitor}
use Rattle.tk_journal.specs.Readings.{is_open, is_stopped}
use Rattle.tk_journal.specs.Turns.{rounds}
use Rattle.tk_story.specs.Kept.{KeptStory}
use Rattle.tk_story.specs.Moments.{IsOver}
use Rattle.tk_story.specs.Story.{IsStory, StoryView, trail_of, setup_of}
use Rattle.tk_trail.specs.Readings.{is_stopped as has_stopped, at_ends}
use Rattle.tk_world.specs.Events.{begin, after, CanOnlyChange}

-- what is reached from a beginning runs the events that are kept with it
abbrev pub ReachedFromTheBeginningRuns : Type 0
ReachedFromTheBeginningRuns =
    (settings : Setup) (logs : LogSet) (from : List (List ℕ)) (end : KeptStory)
    → IsStory end.story → IsReached (record { story = begin settings logs from; events = [] }) end
    → RunsFrom settings logs from end

-- a settling has at most 87 events for each monitor
abbrev pub SettlingIsShort : Type 0
SettlingIsShort =
    (s t : StoryView) (events : List Event)
    → IsStory s → list_all is_settling events ≡ true → after (Some s) events ≡ Some t
    → length events ≤ 87 * s.settings.monitors

-- at most 87 events of a settling are of any one monitor
abbrev pub FewEventsOfEach : Type 0
FewEventsOfEach =
    (s t : StoryView) (events : List Event) (mon : ℕ)
    → IsStory s → IsMonitor s.settings mon → list_all is_settling events ≡ true → after (Some s) events ≡ Some t
    → events_of mon events ≤ 87

-- at most 11 rounds open in a settling or were open at its beginning
abbrev pub SettlingOpensFewRounds : Type 0
SettlingOpensFewRounds =
    (s t : StoryView) (events : List Event)
    → IsStory s → list_all is_settling events ≡ true → after (Some s) events ≡ Some t
    → rounds t.settings t.journal + (if is_open s.settings s.journal then 1 else 0) ≤ rounds s.settings s.journal + 11

-- where nothing but a raise or a retune can happen and the journal is stopped, each monitor took Stop
abbrev pub StoppedMonitorsTookStop : Type 0
StoppedMonitorsTookStop =
    (s : StoryView)
    → IsStory s → CanOnlyChange s → is_stopped s.journal ≡ true → (mon : ℕ) → IsMonitor s.settings mon
    → has_stopped (trail_of s mon) ≡ true

-- a settling from the ends of all parts that comes to its end leaves a story that is over
abbrev pub SettlingAtTheEndsIsOver : Type 0
SettlingAtTheEndsIsOver =
    (s t : StoryView) (events : List Event)
    → IsStory s → ((mon : ℕ) → IsMonitor s.settings mon → at_ends (setup_of s mon) (trail_of s mon) ≡ true)
    → list_all is_settling events ≡ true → after (Some s) events ≡ Some t → CanOnlyChange t → IsOver t
