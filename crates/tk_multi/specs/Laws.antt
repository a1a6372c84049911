-- What holds of several queries over the same logs.
use Rattle.std.specs.Prelude.{◌≡◌, ℕ, List, Some, length, ◌-◌, slice_get}
use Rattle.tk_drain.specs.Drive.{keep_all}
use Rattle.tk_input.specs.Catalog.{names_with}
use Rattle.tk_input.specs.Logs.{LogSet}
use Rattle.tk_multi.specs.Multi.{begun, begun_over, passed_all}
use Rattle.tk_multi.specs.Projection.{projected, anew, watch_of}
use Rattle.tk_multi.specs.Queries.{entry_at}
use Rattle.tk_multi.specs.declared.alone.Alone.{Alone}
use Rattle.tk_multi.specs.declared.event.MultiEvent.{MultiEvent}

-- after any events each query stands where a world of it alone stands after their projection to it
abbrev pub EachQueryIsAsAlone : Type 0
EachQueryIsAsAlone =
    (all : LogSet) (alones : List Alone) (events : List MultiEvent) (q : ℕ) (one : Alone)
    → entry_at alones q ≡ Some one
    → entry_at (passed_all (begun_over all alones) events).worlds q
    ≡ Some (keep_all (begun one) (projected all one.watch q events))

-- there are as many worlds as queries
abbrev pub OneWorldForEachQuery : Type 0
OneWorldForEachQuery =
    (all : LogSet) (alones : List Alone) (events : List MultiEvent)
    → length (passed_all (begun_over all alones) events).worlds ≡ length alones

-- a watched object has one name, by its number among all objects and among those that are watched
abbrev pub WatchedObjectKeepsItsName : Type 0
WatchedObjectKeepsItsName =
    (prefix : List ℕ) (names : List (List ℕ)) (o n : ℕ)
    → anew (watch_of prefix names) o ≡ Some n → slice_get (names_with prefix names) (n - 1) ≡ slice_get names (o - 1)
