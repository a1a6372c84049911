-- What holds of stories and their events.
use Rattle.std.specs.Prelude.{ℕ, ◌≡◌, List, length, Some}
use Rattle.tk_base.specs.Settings.{Setup, IsWithinLimits}
use Rattle.tk_input.specs.Logs.{AreLogs, IsCut, LogSet}
use Rattle.tk_input.specs.declared.event.Event.{Event}
use Rattle.tk_story.specs.Moments.{IsMoment}
use Rattle.tk_story.specs.Story.{IsStory, StoryView}
use Rattle.tk_world.specs.Events.{begin, after}
use Rattle.tk_world.specs.Runs.{RunsBy}

-- over logs within their limits, from a cut of them, the opening alone is a story
abbrev pub BeginningIsAStory : Type 0
BeginningIsAStory =
    (settings : Setup) (logs : LogSet) (from : List (List ℕ))
    → IsWithinLimits settings → AreLogs logs → logs.objects ≡ settings.objects → length logs.logs ≡ settings.monitors
    → IsCut logs.logs from → IsStory (begin settings logs from)

-- each state on the way of a run is a moment of the story that it leads to
abbrev pub EachStateIsAMoment : Type 0
EachStateIsAMoment =
    (t s : StoryView) (events : List Event)
    → IsStory t → after (Some t) events ≡ Some s → IsMoment t s

-- a story that runs by some events is where they lead to from its beginning
abbrev pub RunLeadsToItsStory : Type 0
RunLeadsToItsStory =
    (s : StoryView) (events : List Event)
    → IsStory s → RunsBy s events → after (Some (begin s.settings s.logs s.from)) events ≡ Some s

-- a story that some events lead to from its beginning runs by them
abbrev pub ReachedStoryRuns : Type 0
ReachedStoryRuns =
    (s : StoryView) (events : List Event)
    → IsStory s → after (Some (begin s.settings s.logs s.from)) events ≡ Some s → RunsBy s events

-- two stories that begin alike and run by the same events are one
abbrev pub EventsTellOneStory : Type 0
EventsTellOneStory =
    (s t : StoryView) (events : List Event)
    → IsStory s → IsStory t → s.settings ≡ t.settings → s.logs ≡ t.logs → s.from ≡ t.from → RunsBy s events
    → RunsBy t events → s ≡ t
