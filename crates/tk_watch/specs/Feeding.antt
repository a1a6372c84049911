-- What a feeder does: it reads what its stream gives, and tells it under the lock.
use Rattle.std.specs.Prelude.{◌≡◌, ℕ, ◌-◌, Bool, List, [], ◌∷◌, ◌++◌, length, Some, None, slice_set, ⊤}
use Rattle.tk_base.specs.declared.ids.Feeder.{Feeder}
use Rattle.tk_monitor.specs.declared.outcome.Raised.{Raised}
use Rattle.tk_recent.specs.Kept.{Kept}
use Rattle.tk_stream.specs.Line.{IsItemOf}
use Rattle.tk_stream.specs.Records.{FailsItem, FindsItem, Unread}
use Rattle.tk_stream.specs.declared.item.Item.{Item}
use Rattle.tk_stream.specs.declared.records.StreamFault.{StreamFault}
use Rattle.tk_stream.specs.declared.records.StreamFault.TheVariants as s
use Rattle.tk_watch.specs.Each.{Stops, TellsEach}
use Rattle.tk_watch.specs.Told.{Closes}
use Rattle.tk_watch.specs.Watch.{WatchView}
use Rattle.tk_watch.specs.Windows.{run_on, window_of}
use Rattle.tk_watch.specs.declared.delivered.Delivered.{Delivered}
use Rattle.tk_watch.specs.declared.delivered.Delivered.TheVariants as d
use Rattle.tk_watch.specs.declared.ended.Given.{Given}
use Rattle.tk_watch.specs.declared.ended.Given.TheVariants as v
use Rattle.tk_watch.specs.declared.fault.FeedKind.{FeedKind}
use Rattle.tk_watch.specs.declared.fault.FeedKind.TheVariants as k
use Rattle.tk_watch.specs.declared.gathered.Gathered.{Gathered}
use Rattle.tk_watch.specs.declared.gathered.Gathered.TheVariants as g

-- ---- what a stream gave, where ticks are known or not

-- it gave these records and ticks, in order
abbrev pub Gives : Bool → List (List ℕ) → Unread → List Item → Unread → Type 0
Gives ticks names old [] new = new ≡ old
Gives ticks names old (item ∷ items) new = (now : Unread) × (FindsItem ticks names (Some item) old now × Gives ticks names now items new)

-- what a reading came upon: what was the first to come, or that there is none any more
abbrev pub Reads : Bool → List (List ℕ) → Feeder → Given → Unread → Unread → Type 0
Reads ticks names f (v.Item item) old new = FindsItem ticks names (Some item) old new × IsItemOf ticks (length names) item
Reads ticks names f (v.Nothing ended) old new = FindsItem ticks names None old new × (ended.stream ≡ f)

-- what the fault of a stream is to the process
abbrev pub kind_by : StreamFault → FeedKind
kind_by (s.Bad line fault) = k.Bad line fault
kind_by s.ReadFailed = k.Unread
kind_by s.NoMemory = k.NoMemory

-- why no more was read: more may come, none does any more, or the stream failed; where memory is wanted, a record may be lost
abbrev pub Pauses : Bool → List (List ℕ) → Feeder → Gathered → Unread → Unread → Type 0
Pauses ticks names f g.More old new = new ≡ old
Pauses ticks names f (g.Ended ended) old new = Reads ticks names f (v.Nothing ended) old new
Pauses ticks names f (g.Failed k.Unread) old new = FailsItem ticks names s.ReadFailed old new
Pauses ticks names f (g.Failed (k.Bad line fault)) old new = FailsItem ticks names (s.Bad line fault) old new
Pauses ticks names f (g.Failed (k.TooGreat obj)) old new = ⊥
Pauses ticks names f (g.Failed k.NoMemory) old new = ⊤

-- one record or tick more was read into a batch
pub record Adds (ticks : Bool) (names : List (List ℕ)) (old : Unread) (before after : List Item) (new : Unread) : Type 0 where
  pub item : Item
  pub finds : FindsItem ticks names (Some item) old new
  pub object : IsItemOf ticks (length names) item
  pub added : after ≡ before ++ item ∷ []

-- a batch has what the stream gave, in order, up to where it paused
pub record Gathers (ticks : Bool) (names : List (List ℕ)) (f : Feeder) (old : Unread) (batch : List Item) (gathered : Gathered) (new : Unread) : Type 0 where
  pub behind : Unread
  pub gives : Gives ticks names old batch behind
  pub pauses : Pauses ticks names f gathered behind new

-- ---- what a feeder delivers

-- each record of a batch was noted and told, and each of its ticks ended
pub record TakesEach {W : Type 0} (old : WatchView W) (windows : List Kept) (f : Feeder) (batch : List Item) (after : List Kept) (new : WatchView W) : Type 0 where
  pub told : TellsEach old f (run_on (window_of windows f.0) batch).told new
  pub noted : after ≡ slice_set windows (f.0 - 1) (run_on (window_of windows f.0) batch).kept

-- what it did with a batch under the lock. A closing record is raised behind all records alone, where the stream has ended
abbrev pub Delivers : {W : Type 0} → WatchView W → List Kept → Feeder → List Item → Gathered → Delivered → List Kept → WatchView W → Type 0
Delivers old windows f batch gathered d.Nothing after new = (new ≡ old) × (after ≡ windows)
Delivers old windows f batch gathered d.All after new = (gathered ≡ g.More) × TakesEach old windows f batch after new
Delivers old windows f batch gathered d.Closed after new =
    (ended : _) × (gathered ≡ g.Ended ended) × ((behind : WatchView _) × (TakesEach old windows f batch after behind × ((raised : Raised) × Closes behind f raised new)))
Delivers old windows f batch gathered d.Failed after new = (kind : FeedKind) × (gathered ≡ g.Failed kind) × TakesEach old windows f batch after new
Delivers old windows f batch gathered (d.Stopped untold) after new = Stops old f (run_on (window_of windows f.0) batch).told untold after new

-- what it told are the records that its stream gave since, in order, each once, and behind those of a tick what that takes back; it
-- closed the stream behind the last alone
pub record Feeds {W : Type 0} (ticks : Bool) (names : List (List ℕ)) (before after : Unread) (f : Feeder) (old : WatchView W) (windows : List Kept) (delivered : Delivered) (then : List Kept) (new : WatchView W) : Type 0 where
  pub batch : List Item
  pub gathered : Gathered
  pub gathers : Gathers ticks names f before batch gathered after
  pub delivers : Delivers old windows f batch gathered delivered then new
