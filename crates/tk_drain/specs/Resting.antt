-- What a settling leaves, and what a run is.
use Rattle.std.specs.Prelude.{ℕ, ◌+◌, ◌≡◌, ◌≤◌, true, if◌then◌else◌, List}
use Rattle.tk_base.specs.Settings.{Setup}
use Rattle.tk_input.specs.Logs.{LogSet}
use Rattle.tk_story.specs.Kept.{KeptStory}
use Rattle.tk_world.specs.Runs.{RunsBy}
use Rattle.tk_journal.specs.Laws.{IsMonitor}
use Rattle.tk_journal.specs.Readings.{is_calm, is_open, is_stopped}
use Rattle.tk_journal.specs.Turns.{rounds}
use Rattle.tk_trail.specs.Readings.{is_stopped as has_stopped}
use Rattle.tk_story.specs.Moments.{IsQuiet}
use Rattle.tk_story.specs.Story.{StoryView, trail_of}
use Rattle.tk_world.specs.Events.{CanOnlyChange}

-- nothing but a raise or a retune can happen, all is quiet, each current answer is a Settled, and where the journal is
-- stopped each monitor took Stop; at most 11 full and wide rounds opened on the way or were open at its beginning
pub record ComesToRest (old new : StoryView) : Type 0 where
  pub still : CanOnlyChange new
  pub quiet : IsQuiet new
  pub calm : is_calm new.settings new.journal ≡ true
  pub stopped : is_stopped new.journal ≡ true → (mon : ℕ) → IsMonitor new.settings mon → has_stopped (trail_of new mon) ≡ true
  pub rounds : rounds new.settings new.journal + (if is_open old.settings old.journal then 1 else 0) ≤ rounds old.settings old.journal + 11

-- a story over these settings and logs, from these places, that runs the events that are kept with it
pub record RunsFrom (settings : Setup) (logs : LogSet) (from : List (List ℕ)) (kept : KeptStory) : Type 0 where
  pub settings_is : kept.story.settings ≡ settings
  pub logs_is : kept.story.logs ≡ logs
  pub from_is : kept.story.from ≡ from
  pub runs : RunsBy kept.story kept.events
