-- What several queries come to: of each the story of a run of it alone.
use Rattle.std.specs.Prelude.{ℕ, ◌≡◌, List, [], ◌∷◌, length, Option, Some, None}
use Rattle.tk_input.specs.Logs.{LogSet}
use Rattle.tk_story.specs.Kept.{KeptStory}
use Rattle.tk_story.specs.Moments.{IsOver}
use Rattle.tk_story.specs.Story.{IsStory}
use Rattle.tk_drain.specs.Drive.{Drives, IsFinishing}
use Rattle.tk_drain.specs.Resting.{RunsFrom}
use Rattle.tk_multi.specs.Multi.{begun}
use Rattle.tk_multi.specs.Order.{MultiOrderView}
use Rattle.tk_multi.specs.Projection.{projected}
use Rattle.tk_multi.specs.Queries.{entry_at}
use Rattle.tk_multi.specs.declared.alone.Alone.{Alone}
use Rattle.tk_multi.specs.declared.event.MultiEvent.{MultiEvent}

-- the events of an order, where there is one
abbrev pub events_in : Option MultiOrderView → List MultiEvent
events_in None = []
events_in (Some order) = order.events

-- the answer to query q: a legal story that is over, over what the query runs over alone; it runs the events that are
-- kept with it, and these are what is kept of the drive of what the query sees of the events
pub record IsAnswer (all : LogSet) (events : List MultiEvent) (q : ℕ) (alone : Alone) (kept : KeptStory) : Type 0 where
  pub legal : IsStory kept.story
  pub over : IsOver kept.story
  pub runs : RunsFrom alone.settings alone.logs alone.from kept
  pub driven : Drives (projected all alone.watch q events) (begun alone) kept

-- there is one answer for each query, in order
pub record AreAnswers (all : LogSet) (events : List MultiEvent) (alones : List Alone) (stories : List KeptStory) : Type 0 where
  pub count : length stories ≡ length alones
  pub each : (q : ℕ) (alone : Alone) (kept : KeptStory) → entry_at alones q ≡ Some alone → entry_at stories q ≡ Some kept → IsAnswer all events q alone kept

-- a story was finished from where a world stood
pub record IsEnd (world kept : KeptStory) : Type 0 where
  pub legal : IsStory kept.story
  pub over : IsOver kept.story
  pub finished : IsFinishing world kept

-- so was each of some stories
abbrev pub AreFinished : List KeptStory → List KeptStory → Type 0
AreFinished [] [] = Unit {0}
AreFinished [] (kept ∷ stories) = ⊥
AreFinished (world ∷ worlds) [] = ⊥
AreFinished (world ∷ worlds) (kept ∷ stories) = IsEnd world kept × AreFinished worlds stories
