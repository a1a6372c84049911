-- An input has one story.
use Rattle.std.proofs.Common.{◌≡◌, ℕ, List, [], ◌∷◌, Some, None, refl, sym, subst}
use Rattle.tk_input.specs.declared.event.Event.{Event}
use Rattle.tk_story.specs.Kept.{KeptStory}
use Rattle.tk_story.specs.Story.{StoryView}
use Rattle.tk_world.specs.Events.{CanOnlyChange, next_of}
use Rattle.tk_drain.specs.Drive.{Finishes, IsFinishing, Settles, all_raises, events_in, keep, keep_all, swept}
use Rattle.tk_drain.specs.Drive.Finishes.{Done, Passes, Raises}
use Rattle.tk_drain.specs.Drive.Settles.{Rests, Sweeps}
use Rattle.tk_load.specs.declared.input.Input.{Input}
use Rattle.tk_run.specs.Ends.{IsStoryOf, begun_by}

-- a story that is at rest settles to itself
rests_once : (a b : KeptStory) (n : ℕ) → CanOnlyChange a.story → Settles a b n → b ≡ a
rests_once a b n calm (Rests kept idle) = refl
rests_once a b n calm (Sweeps kept end count moves more) = absurd (moves calm)

-- another one after a sweep
sweeps_on : (a b : KeptStory) (n : ℕ) → (CanOnlyChange a.story → ⊥) → Settles a b n → (m : ℕ) × Settles (swept a) b m
sweeps_on a b n moves (Rests kept idle) = absurd (moves idle)
sweeps_on a b n moves (Sweeps kept end count moved more) = (count, more)

-- a settling ends in one way
settles_once : (a b c : KeptStory) (n m : ℕ) → Settles a b n → Settles a c m → b ≡ c
settles_once a b c n m (Rests kept idle) other = sym (rests_once a c m idle other)
settles_once a b c n m (Sweeps kept end count moves more) other =
    let on = sweeps_on a c m moves other in
    settles_once (swept a) b c count on.0 more on.1

nothing_left : (a b : KeptStory) → Finishes [] a b → b ≡ a
nothing_left a b (Done kept) = refl

passed : (e : Event) (events : List Event) (a b : KeptStory) → next_of a.story e ≡ None → Finishes (e ∷ events) a b → Finishes events a b
passed e events a b none (Passes event rest kept end still more) = more
passed e events a b none (Raises event rest kept settled end story count some settles more) = absurd (cc (none, some))

record Raised (e : Event) (events : List Event) (a b : KeptStory) : Type 0 where
  settled : KeptStory
  count : ℕ
  settles : Settles (keep a e) settled count
  finishes : Finishes events settled b

raised : (e : Event) (events : List Event) (a b : KeptStory) (s : StoryView) → next_of a.story e ≡ Some s → Finishes (e ∷ events) a b → Raised e events a b
raised e events a b s some (Passes event rest kept end none more) = absurd (cc (none, some))
raised e events a b s some (Raises event rest kept settled end story count found settles more) = record { settled = settled; count = count; settles = settles; finishes = more }

-- so do raises, each with its settling
finishes_once : (events : List Event) (a b c : KeptStory) → Finishes events a b → Finishes events a c → b ≡ c
finishes_once [] a b c (Done kept) other = sym (nothing_left a c other)
finishes_once (e ∷ events) a b c (Passes event rest kept end none more) other = finishes_once events a b c more (passed e events a c none other)
finishes_once (e ∷ events) a b c (Raises event rest kept settled end story count some settles more) other =
    let on = raised e events a c story some other in
    let same : settled ≡ on.settled = settles_once (keep a e) settled on.settled count on.count settles on.settles in
    finishes_once events settled b c more (subst (λ (k : KeptStory). Finishes events k c) (sym same) on.finishes)

finished_once : (begun a b : KeptStory) → IsFinishing begun a → IsFinishing begun b → a ≡ b
finished_once begun a b one other =
    let same : one.settled ≡ other.settled = settles_once begun one.settled other.settled one.count other.count one.settles other.settles in
    finishes_once (all_raises begun.story.logs) one.settled a b one.finishes (subst (λ (k : KeptStory). Finishes (all_raises begun.story.logs) k b) (sym same) other.finishes)

pub story_once : (input : Input) (a b : KeptStory) → IsStoryOf input a → IsStoryOf input b → a ≡ b
story_once input a b one other = finished_once (keep_all (begun_by input) (events_in input.order)) a b one.driven.finished other.driven.finished
