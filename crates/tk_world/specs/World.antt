-- A world as contracts see it: what it runs over, what a step leaves, and which monitors are at rest.
use Rattle.std.specs.Prelude.{ℕ, ◌≡◌, ◌≤◌, ◌<◌, Bool, true, false, List, ◌∷◌, [], ◌++◌, length, Option, Some, None}
use Rattle.tk_base.specs.Settings.{Setup}
use Rattle.tk_base.specs.declared.ids.Mon.{Mon}
use Rattle.tk_input.specs.Logs.{IsCut, LogSet}
use Rattle.tk_input.specs.declared.event.Event.{Event}
use Rattle.tk_input.specs.declared.event.Event.TheVariants.{Raise, Check, Up, Down, Retune}
use Rattle.tk_journal.specs.Laws.{IsMonitor}
use Rattle.tk_story.specs.Kept.{KeptStory}
use Rattle.tk_story.specs.Story.{StoryView, setup_of}
use Rattle.tk_world.specs.Events.{next_of, check_at, up_at, down_at}
use Rattle.tk_world.specs.declared.moved.Moved.{Moved}
use Rattle.tk_world.specs.declared.moved.Moved.TheVariants.{Yes, Idle}

-- settings and logs over which a world can run, and places from which it can start
pub record CanRun (settings : Setup) (logs : LogSet) (from : List (List ℕ)) : Type 0 where
  pub objects : logs.objects ≡ settings.objects
  pub monitors : length logs.logs ≡ settings.monitors
  pub starts : IsCut logs.logs from

-- a monitor of the story, and a feeder of it
pub record IsFeeder (s : StoryView) (mon feeder : ℕ) : Type 0 where
  pub monitor : IsMonitor s.settings mon
  pub from_one : 1 ≤ feeder
  pub within : feeder ≤ length (setup_of s mon).parts

-- what an event leaves: it took place and is kept, or it was not enabled and nothing changed
abbrev pub Moves : KeptStory → Event → Moved → KeptStory → Type 0
Moves old event Yes new = (next_of old.story event ≡ Some new.story) × (new.events ≡ old.events ++ event ∷ [])
Moves old event Idle new = (next_of old.story event ≡ None) × (new ≡ old)

-- whether an event is a raise
abbrev pub is_raise : Event → Bool
is_raise (Raise mon feeder) = true
is_raise (Check mon) = false
is_raise (Up mon) = false
is_raise (Down mon) = false
is_raise (Retune tuning) = false

-- no event of a monitor is enabled but its raises
pub record IsAtRest (s : StoryView) (mon : ℕ) : Type 0 where
  pub check : next_of s (check_at mon) ≡ None
  pub up : next_of s (up_at mon) ≡ None
  pub down : next_of s (down_at mon) ≡ None

-- a number is in front of the one that was found; where none was found, each is
abbrev pub IsBefore : ℕ → Option Mon → Type 0
IsBefore mon None = Unit {0}
IsBefore mon (Some found) = mon < found.0

-- each monitor from a number on is at rest, up to the one that was found
abbrev pub AreAtRest : StoryView → ℕ → Option Mon → Type 0
AreAtRest s from found = (mon : ℕ) → from ≤ mon → IsBefore mon found → IsAtRest s mon
