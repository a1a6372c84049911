-- The drive: sweeps, settlings, and the raises that are left, each followed by a settling.
use Rattle.std.specs.Prelude.{ℕ, suc, ◌≡◌, ◌++◌, ◌∷◌, [], List, map, flat_map, length, max, fold, Option, Some, None}
use Rattle.std.specs.List.{range_with_len}
use Rattle.tk_base.specs.Settings.{Setup}
use Rattle.tk_base.specs.History.{IsFront}
use Rattle.tk_input.specs.Logs.{LogSet, parts_of}
use Rattle.tk_input.specs.Order.{OrderView}
use Rattle.tk_input.specs.declared.event.Event.{Event}
use Rattle.tk_journal.specs.Readings.{monitors}
use Rattle.tk_story.specs.Kept.{KeptStory}
use Rattle.tk_story.specs.Story.{StoryView}
use Rattle.tk_world.specs.Events.{CanOnlyChange, after, check_at, down_at, next_of, raise_at, up_at}

-- a story after an event, by what this leaves: where it leaves nothing, the story as it was
abbrev pub keep_by : KeptStory → Event → Option StoryView → KeptStory
keep_by kept event None = kept
keep_by kept event (Some story) = record { story = story; events = kept.events ++ event ∷ [] }

-- a story after an event that is kept where it is enabled, and passed over where it is not
unfoldable pub keep : KeptStory → Event → KeptStory
keep kept event = keep_by kept event (next_of kept.story event)

-- a story after some events, each of them judged where it stands
abbrev pub keep_all : KeptStory → List Event → KeptStory
keep_all kept events = fold keep kept events

-- the events of a sweep: each monitor is checked, then a frame of each is taken, then each takes a frame
unfoldable pub sweep_events : Setup → List Event
sweep_events setup = map check_at (monitors setup) ++ map up_at (monitors setup) ++ map down_at (monitors setup)

-- a front of some events, each kept where it was enabled
pub record KeepsFront (events : List Event) (old new : KeptStory) : Type 0 where
  pub front : List Event
  pub is_front : IsFront front events
  pub is : new ≡ keep_all old front

-- a story after a sweep
abbrev pub swept : KeptStory → KeptStory
swept kept = keep_all kept (sweep_events kept.story.settings)

-- a settling: sweeps up to and with the first that moves nothing, since nothing is enabled; their number is the index
pub data Settles : KeptStory → KeptStory → ℕ → Type 0 where
  Rests : (kept : KeptStory) → CanOnlyChange kept.story → Settles kept kept 1
  Sweeps : (kept end : KeptStory) (count : ℕ) → (CanOnlyChange kept.story → ⊥) → Settles (swept kept) end count → Settles kept end (suc count)

-- the beginning of a settling: some sweeps that move something, and a front of a further one
pub data BeginsSettling : KeptStory → KeptStory → Type 0 where
  Within : (kept end : KeptStory) (events : List Event) → IsFront events (sweep_events kept.story.settings) → end ≡ keep_all kept events → BeginsSettling kept end
  Beyond : (kept end : KeptStory) → BeginsSettling (swept kept) end → BeginsSettling kept end

-- one raise of each part of a monitor, feeders ascending
abbrev pub raises_of : LogSet → ℕ → List Event
raises_of logs mon = map (raise_at mon) (range_with_len 1 (length (parts_of logs.logs mon)))

-- a pass: one raise of each part of some logs, monitors ascending
abbrev pub pass_of : LogSet → List Event
pass_of logs = flat_map (raises_of logs) (range_with_len 1 (length logs.logs))

-- the changes of the longest part
abbrev pub longest_of : LogSet → ℕ
longest_of logs = fold (λ longest parts. fold (λ most part. max most (length part)) longest parts) 0 logs.logs

-- as many passes as the longest part has changes; a part that is at its end is passed over
unfoldable pub all_raises : LogSet → List Event
all_raises logs = flat_map (λ pass. pass_of logs) (range_with_len 0 (longest_of logs))

-- raises that are enabled where they stand, each followed by a settling
pub data Finishes : List Event → KeptStory → KeptStory → Type 0 where
  Done : (kept : KeptStory) → Finishes [] kept kept
  Passes : (event : Event) (events : List Event) (kept end : KeptStory) → next_of kept.story event ≡ None → Finishes events kept end → Finishes (event ∷ events) kept end
  Raises : (event : Event) (events : List Event) (kept settled end : KeptStory) (story : StoryView) (count : ℕ) → next_of kept.story event ≡ Some story
      → Settles (keep kept event) settled count → Finishes events settled end → Finishes (event ∷ events) kept end

-- finishing: a settling, and then the raises that are left
pub record IsFinishing (begun end : KeptStory) : Type 0 where
  pub settled : KeptStory
  pub count : ℕ
  pub settles : Settles begun settled count
  pub finishes : Finishes (all_raises begun.story.logs) settled end

-- the events of an order, where there is one
abbrev pub events_in : Option OrderView → List Event
events_in None = []
events_in (Some order) = order.events

-- the drive of an order from a beginning: its events, each kept where it is enabled, and then finishing
pub record Drives (order : List Event) (begun end : KeptStory) : Type 0 where
  pub finished : IsFinishing (keep_all begun order) end

-- the beginning of such raises: it stands before a raise, or in the settling of one
pub data BeginsFinishes : List Event → KeptStory → KeptStory → Type 0 where
  Before : (events : List Event) (kept : KeptStory) → BeginsFinishes events kept kept
  Settling : (event : Event) (events : List Event) (kept end : KeptStory) (story : StoryView) → next_of kept.story event ≡ Some story
      → BeginsSettling (keep kept event) end → BeginsFinishes (event ∷ events) kept end
  PassesOver : (event : Event) (events : List Event) (kept end : KeptStory) → next_of kept.story event ≡ None
      → BeginsFinishes events kept end → BeginsFinishes (event ∷ events) kept end
  RaisesOn : (event : Event) (events : List Event) (kept settled end : KeptStory) (story : StoryView) (count : ℕ) → next_of kept.story event ≡ Some story
      → Settles (keep kept event) settled count → BeginsFinishes events settled end → BeginsFinishes (event ∷ events) kept end

-- the beginning of finishing: in its settling, or in the raises that follow
pub data BeginsFinishing (begun end : KeptStory) : Type 0 where
  InSettling : BeginsSettling begun end → BeginsFinishing begun end
  InRaises : (settled : KeptStory) (count : ℕ) → Settles begun settled count → BeginsFinishes (all_raises begun.story.logs) settled end → BeginsFinishing begun end

-- the beginning of the drive of an order: a front of the order, or behind it the beginning of finishing
pub data BeginsDrive (order : List Event) (begun end : KeptStory) : Type 0 where
  InOrder : KeepsFront order begun end → BeginsDrive order begun end
  BehindOrder : BeginsFinishing (keep_all begun order) end → BeginsDrive order begun end

-- a story that some events have led to
pub record IsReached (kept end : KeptStory) : Type 0 where
  pub events : List Event
  pub runs : after (Some kept.story) events ≡ Some end.story
  pub kept_too : end.events ≡ kept.events ++ events
