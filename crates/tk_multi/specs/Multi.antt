-- Several queries over common logs as contracts see them, and what an event leaves.
use Rattle.std.specs.Prelude.{ℕ, ℤ, ◌≡◌, ◌-◌, ◌^◌, ◌<◌, Bool, true, false, if◌then◌else◌, List, [], ◌∷◌, ◌++◌, length, map, fold, set, slice_get, Option, Some, None, option_map, option_and_then}
use Rattle.std.specs.List.{zip}
use Rattle.tk_input.specs.Logs.{IsCut, LogSet, beginnings, part_of}
use Rattle.tk_input.specs.declared.event.Event.{Event}
use Rattle.tk_input.specs.declared.event.Event.TheVariants as alone
use Rattle.tk_story.specs.Kept.{KeptStory}
use Rattle.tk_story.specs.Story.{StoryView}
use Rattle.tk_world.specs.Events.{begin, next_of}
use Rattle.tk_world.specs.declared.moved.Moved.{Moved}
use Rattle.tk_world.specs.declared.moved.Moved.TheVariants.{Yes, Idle}
use Rattle.tk_drain.specs.Drive.{keep}
use Rattle.tk_multi.specs.Front.{HasPlace, place_of, raised}
use Rattle.tk_multi.specs.Projection.{is_feeder, is_watched}
use Rattle.tk_multi.specs.Queries.{entry_at}
use Rattle.tk_multi.specs.declared.alone.Alone.{Alone}
use Rattle.tk_multi.specs.declared.event.MultiEvent.{MultiEvent}
use Rattle.tk_multi.specs.declared.event.MultiEvent.TheVariants.{Raise, Check, Up, Down}

-- the common logs and how far each part is raised; for each query what it watches, and its story so far
pub record MultiView : Type 0 where
  pub logs : LogSet
  pub places : List (List ℕ)
  pub watches : List (List (Option ℕ))
  pub worlds : List KeptStory

-- the next common change of a feeder, if it is there and not at its end
abbrev pub next_change : MultiView → ℕ → ℕ → Option (ℕ × ℤ)
next_change m mon feeder = if is_feeder m.logs mon feeder then slice_get (part_of m.logs mon feeder) (place_of m.places mon feeder) else None

-- the story of a query that watches an object moves on by an event of that object
abbrev pub moved_at : Event → ℕ → List (Option ℕ) × KeptStory → KeptStory
moved_at event o query = if is_watched query.0 o then keep query.1 event else query.1

-- a change of an object is raised: each query that watches it has one raise more
abbrev pub with_raise : MultiView → ℕ → ℕ → Event → ℕ → MultiView
with_raise m mon feeder event o = record m {
  places = raised m.places mon feeder;
  worlds = map (moved_at event o) (zip m.watches m.worlds);
}

-- the story of one query moves on
abbrev pub with_world : MultiView → ℕ → KeptStory → Event → StoryView → MultiView
with_world m q kept event story = record m { worlds = set m.worlds (q - 1) (record { story = story; events = kept.events ++ event ∷ [] }) }

-- an event of one query: it happens where there is such a query and it is enabled there
abbrev pub next_in : MultiView → ℕ → Event → Option MultiView
next_in m q event = option_and_then (λ kept. option_map (with_world m q kept event) (next_of kept.story event)) (entry_at m.worlds q)

-- what an event leaves, or nothing where it does not happen: a raise where its part has a further change, another event
-- where its query has it enabled
abbrev pub next_multi : MultiView → MultiEvent → Option MultiView
next_multi m (Raise mon f) = option_map (λ change. with_raise m mon.0 f.0 (alone.Raise mon f) change.0) (next_change m mon.0 f.0)
next_multi m (Check q mon) = next_in m q (alone.Check mon)
next_multi m (Up q mon) = next_in m q (alone.Up mon)
next_multi m (Down q mon) = next_in m q (alone.Down mon)

-- whether an event is a raise of a common change
abbrev pub is_raise : MultiEvent → Bool
is_raise (Raise mon f) = true
is_raise (Check q mon) = false
is_raise (Up q mon) = false
is_raise (Down q mon) = false

-- the event happened and left this, or it does not happen and nothing changed
abbrev pub Leaves : Option MultiView → MultiView → Moved → MultiView → Type 0
Leaves next old Yes new = next ≡ Some new
Leaves next old Idle new = (next ≡ None) × (new ≡ old)

-- what a step by an event leaves
abbrev pub Steps : MultiView → MultiEvent → Moved → MultiView → Type 0
Steps old event moved new = Leaves (next_multi old event) old moved new

-- what comes next, or what was there before where nothing comes
abbrev pub left_by : MultiView → Option MultiView → MultiView
left_by old None = old
left_by old (Some new) = new

-- what an event leaves, where one that does not happen is passed over
abbrev pub passed : MultiView → MultiEvent → MultiView
passed m event = left_by m (next_multi m event)

-- what some events leave, each judged where it stands
abbrev pub passed_all : MultiView → List MultiEvent → MultiView
passed_all m events = fold passed m events

-- the story of a query alone before its first event
abbrev pub begun : Alone → KeptStory
begun alone = record { story = begin alone.settings alone.logs alone.from; events = [] }

-- queries that have just begun, over common logs
abbrev pub begun_over : LogSet → List Alone → MultiView
begun_over all alones = record {
  logs = all;
  places = beginnings all;
  watches = map (λ alone. alone.watch) alones;
  worlds = map begun alones;
}

-- the common places are places of the logs, and each query has its world
pub record AreSetUp (logs : LogSet) (places : List (List ℕ)) (watches worlds : ℕ) : Type 0 where
  pub cut : IsCut logs.logs places
  pub each : watches ≡ worlds

-- the part of a feeder goes on
pub record GoesOn (m : MultiView) (mon feeder : ℕ) : Type 0 where
  pub there : is_feeder m.logs mon feeder ≡ true
  pub place : HasPlace m.places mon feeder
  pub within : place_of m.places mon feeder < length (part_of m.logs mon feeder)
  pub short : length (part_of m.logs mon feeder) < 2 ^ 32
