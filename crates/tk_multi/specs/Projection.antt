-- What a query sees of the objects, of the logs and of a list of events.
use Rattle.std.specs.Prelude.{◌≡◌, ℕ, ◌+◌, ◌-◌, ◌≤◌, ℤ, Bool, false, ◌&&◌, ◌==◌, nat_le, is_some, if◌then◌else◌, List, [], ◌∷◌, ◌++◌, length, map, filter_map, count_by, slice_get, slice_index_or, Option, Some, None, option_map, option_and_then, option_to_list}
use Rattle.tk_input.specs.Catalog.{names_with, object_of}
use Rattle.tk_input.specs.Logs.{IsObject, LogSet, part_of, parts_of}
use Rattle.tk_input.specs.declared.event.Event.{Event}
use Rattle.tk_input.specs.declared.event.Event.TheVariants as alone
use Rattle.tk_multi.specs.declared.event.MultiEvent.{MultiEvent}
use Rattle.tk_multi.specs.declared.event.MultiEvent.TheVariants.{Raise, Check, Up, Down}

-- ---- the objects

-- for each object of a catalogue its number among the names that begin with a prefix, where its own does
abbrev pub watch_of : List ℕ → List (List ℕ) → List (Option ℕ)
watch_of prefix names = map (object_of (names_with prefix names)) names

-- the number that an object has anew, if it is watched
abbrev pub anew : List (Option ℕ) → ℕ → Option ℕ
anew watch o = slice_index_or watch (o - 1) None

-- whether an object is watched
abbrev pub is_watched : List (Option ℕ) → ℕ → Bool
is_watched watch o = is_some (anew watch o)

-- ---- the logs

-- a change of a watched object, which is numbered anew
abbrev pub watched_change : List (Option ℕ) → ℕ × ℤ → Option (ℕ × ℤ)
watched_change watch change = option_map (λ o. (o, change.1)) (anew watch change.0)

-- the changes of the watched objects, in order
unfoldable pub watched_in : List (Option ℕ) → List (ℕ × ℤ) → List (ℕ × ℤ)
watched_in watch changes = filter_map (watched_change watch) changes

-- the logs of a query: of each part the changes of the objects that it watches
abbrev pub logs_for : List ℕ → List (List ℕ) → LogSet → LogSet
logs_for prefix names all = record {
  logs = map (λ parts. map (watched_in (watch_of prefix names)) parts) all.logs;
  objects = length (names_with prefix names);
}

-- ---- the events

-- whether there is such a monitor, and such a feeder of it
abbrev pub is_feeder : LogSet → ℕ → ℕ → Bool
is_feeder all mon feeder = nat_le 1 mon && nat_le mon (length all.logs) && nat_le 1 feeder && nat_le feeder (length (parts_of all.logs mon))

-- whether an event raises a change of a feeder
abbrev pub is_raise_of : ℕ → ℕ → MultiEvent → Bool
is_raise_of mon feeder (Raise m f) = m.0 == mon && f.0 == feeder
is_raise_of mon feeder (Check q m) = false
is_raise_of mon feeder (Up q m) = false
is_raise_of mon feeder (Down q m) = false

-- the common change that a raise is of: the next of its part behind the raises of that part in front of it
abbrev pub change_raised : LogSet → List MultiEvent → ℕ → ℕ → Option (ℕ × ℤ)
change_raised all before mon feeder =
    if is_feeder all mon feeder then slice_get (part_of all mon feeder) (count_by (is_raise_of mon feeder) before) else None

-- an event, if a test holds
abbrev pub only_if : Bool → Event → Option Event
only_if holds event = if holds then Some event else None

-- what an event is to a query, behind some others: a raise of a change that it watches, or an event of its own
abbrev pub seen_by : LogSet → List (Option ℕ) → ℕ → List MultiEvent → MultiEvent → Option Event
seen_by all watch q before (Raise mon f) = option_and_then (λ change. only_if (is_watched watch change.0) (alone.Raise mon f)) (change_raised all before mon.0 f.0)
seen_by all watch q before (Check of mon) = only_if (of == q) (alone.Check mon)
seen_by all watch q before (Up of mon) = only_if (of == q) (alone.Up mon)
seen_by all watch q before (Down of mon) = only_if (of == q) (alone.Down mon)

-- what some events are to a query, behind some others
abbrev pub projected_from : LogSet → List (Option ℕ) → ℕ → List MultiEvent → List MultiEvent → List Event
projected_from all watch q before [] = []
projected_from all watch q before (event ∷ events) =
    option_to_list (seen_by all watch q before event) ++ projected_from all watch q (before ++ event ∷ []) events

-- the projection of some events to a query: its raises whose next common change is of an object that it watches, and its
-- own other events
abbrev pub projected : LogSet → List (Option ℕ) → ℕ → List MultiEvent → List Event
projected all watch q events = projected_from all watch q [] events

-- what a watch numbers anew is one of so many objects, and no two of them have one number
pub record Numbers (count : ℕ) (watch : List (Option ℕ)) : Type 0 where
  pub within : (o n : ℕ) → anew watch o ≡ Some n → IsObject count n
  pub once : (a b n : ℕ) → 1 ≤ a → 1 ≤ b → anew watch a ≡ Some n → anew watch b ≡ Some n → a ≡ b

-- the parts of some logs as a query sees them
abbrev pub seen_logs : List (Option ℕ) → List (List (List (ℕ × ℤ))) → List (List (List (ℕ × ℤ)))
seen_logs watch logs = map (λ parts. map (watched_in watch) parts) logs
