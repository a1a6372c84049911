-- Passes of raises over the parts that go on. No public clause cites this file.
use Rattle.std.specs.Prelude.{ℕ, ℤ, ◌≡◌, List, [], ◌∷◌, map, length, fold, max, Some, None}
use Rattle.tk_base.specs.declared.ids.Feeder.{Feeder}
use Rattle.tk_base.specs.declared.ids.Mon.{Mon}
use Rattle.tk_input.specs.declared.event.Event.{Event}
use Rattle.tk_story.specs.Kept.{KeptStory}
use Rattle.tk_story.specs.Story.{StoryView}
use Rattle.tk_world.specs.Events.{next_of, raise_at}
use Rattle.tk_world.specs.declared.moved.Moved.{Moved}
use Rattle.tk_world.specs.declared.moved.Moved.TheVariants.{Yes, Idle}
use Rattle.tk_drain.specs.Drive.{Finishes, Settles, keep}

-- the raises of some parts
abbrev pub raises : List (Mon × Feeder) → List Event
raises parts = map (λ (part : Mon × Feeder). raise_at part.0.0 part.1.0) parts

-- one raise with its settling
pub record RaisesOne (event : Event) (old new : KeptStory) : Type 0 where
  pub story : StoryView
  pub some : next_of old.story event ≡ Some story
  pub count : ℕ
  pub settles : Settles (keep old event) new count

-- the same where something moved, and else nothing: the part is at its end
abbrev pub MayRaise : Event → Moved → KeptStory → KeptStory → Type 0
MayRaise event Yes old new = RaisesOne event old new
MayRaise event Idle old new = (next_of old.story event ≡ None) × (new ≡ old)

-- the raises that are left of some raises: of each that is left out the part is at its end
pub data Covers (s : StoryView) : List Event → List Event → Type 0 where
  Nothing : Covers s [] []
  GoesOn : (event : Event) (left all : List Event) → Covers s left all → Covers s (event ∷ left) (event ∷ all)
  Ended : (event : Event) (left all : List Event) (mon g : ℕ) → event ≡ raise_at mon g → next_of s event ≡ None → Covers s left all → Covers s left (event ∷ all)

-- a pass over some raises, and those that are left
pub record Passes (all left : List Event) (old new : KeptStory) : Type 0 where
  pub finishes : Finishes all old new
  pub covers : Covers new.story left all

-- the greater of a number and the changes of the longest of some parts
abbrev pub longest_from : ℕ → List (List (ℕ × ℤ)) → ℕ
longest_from most parts = fold (λ longest part. max longest (length part)) most parts
