-- A chain of sessions: what each keeps of the one before is the places of the monitors, and nothing else.
use Rattle.std.specs.Prelude.{ℕ, ◌≡◌, ◌≤◌, List, [], ◌∷◌, slice_index_or}
use Rattle.tk_base.specs.Settings.{Setup}
use Rattle.tk_input.specs.Logs.{LogSet, beginnings}
use Rattle.tk_input.specs.declared.event.Event.{Event}
use Rattle.tk_story.specs.Kept.{KeptStory}
use Rattle.tk_story.specs.Moments.{IsOver, cut_of}
use Rattle.tk_story.specs.Story.{IsStory}
use Rattle.tk_world.specs.Events.{begin}
use Rattle.tk_drain.specs.Drive.{Drives, keep_all}
use Rattle.tk_drain.specs.Resting.{RunsFrom}
use Rattle.tk_session.specs.Order.{stretches}
use Rattle.tk_session.specs.declared.session_line.SessionLine.{SessionLine}

-- a story in which nothing has happened but the opening, from these places
abbrev pub begun : Setup → LogSet → List (List ℕ) → KeptStory
begun settings logs from = record { story = begin settings logs from; events = [] }

-- a session: a legal story over these settings and logs, from these places, that runs the events that are kept with it
pub record IsSession (settings : Setup) (logs : LogSet) (from : List (List ℕ)) (kept : KeptStory) : Type 0 where
  pub legal : IsStory kept.story
  pub runs : RunsFrom settings logs from kept

-- sessions over the same settings and logs, the first from these places, and each further one from the cut at which the
-- one before it ends
abbrev pub IsChainFrom : Setup → LogSet → List (List ℕ) → List KeptStory → Type 0
IsChainFrom settings logs from [] = Unit {0}
IsChainFrom settings logs from (kept ∷ more) =
    IsSession settings logs from kept × IsChainFrom settings logs (cut_of kept.story) more

-- a chain of sessions: the first begins before all changes
abbrev pub IsChain : Setup → LogSet → List KeptStory → Type 0
IsChain settings logs stories = IsChainFrom settings logs (beginnings logs) stories

-- the same story before its first event
abbrev pub beginning_of : KeptStory → KeptStory
beginning_of kept = begun kept.story.settings kept.story.logs kept.story.from

-- one story for each stretch of an order: in front of a restart the events of the stretch, each kept where it is enabled,
-- and behind the last one the drive of the stretch, which ends the run
pub data KeepStretches : List (List Event) → List KeptStory → Type 0 where
  Last : (stretch : List Event) (kept : KeptStory) → Drives stretch (beginning_of kept) kept → IsOver kept.story
      → KeepStretches (stretch ∷ []) (kept ∷ [])
  Restarts : (stretch : List Event) (more : List (List Event)) (kept : KeptStory) (stories : List KeptStory)
      → kept ≡ keep_all (beginning_of kept) stretch → KeepStretches more stories → KeepStretches (stretch ∷ more) (kept ∷ stories)

-- the stories of an order of sessions over these settings and logs: a chain, with one story for each stretch of the order
pub record IsChainOf (settings : Setup) (logs : LogSet) (order : List SessionLine) (stories : List KeptStory) : Type 0 where
  pub chain : IsChain settings logs stories
  pub kept : KeepStretches (stretches order) stories

-- no place falls from one cut to the other
abbrev pub NoPlaceFalls : List (List ℕ) → List (List ℕ) → Type 0
NoPlaceFalls earlier later =
    (j f : ℕ) → slice_index_or (slice_index_or earlier j []) f 0 ≤ slice_index_or (slice_index_or later j []) f 0
