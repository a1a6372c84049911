-- What holds of stories in which nothing moves.
use Rattle.std.specs.Prelude.{ℕ, ◌≡◌, true}
use Rattle.tk_journal.specs.Laws.{IsMonitor}
use Rattle.tk_journal.specs.Readings.{is_stopped}
use Rattle.tk_story.specs.Moments.{IsStill, IsOver}
use Rattle.tk_story.specs.Story.{IsStory, StoryView, setup_of, trail_of}
use Rattle.tk_trail.specs.Readings.{at_ends}

-- where nothing moves and all parts are at their ends, the journal is stopped
abbrev pub StillAtTheEndsIsStopped : Type 0
StillAtTheEndsIsStopped =
    (s : StoryView)
    → IsStory s → IsStill s → ((mon : ℕ) → IsMonitor s.settings mon → at_ends (setup_of s mon) (trail_of s mon) ≡ true)
    → is_stopped s.journal ≡ true

-- and the run is over
abbrev pub StillAtTheEndsIsOver : Type 0
StillAtTheEndsIsOver =
    (s : StoryView)
    → IsStory s → IsStill s → ((mon : ℕ) → IsMonitor s.settings mon → at_ends (setup_of s mon) (trail_of s mon) ≡ true)
    → IsOver s
