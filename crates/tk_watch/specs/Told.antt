-- What becomes of a record that a watch is told.
use Rattle.std.specs.Prelude.{◌≡◌, ◌⊎◌, ℕ, ◌+◌, ◌-◌, ◌^◌, ◌<◌, ℤ, ◌+ℤ◌, Bool, false, not, ◌&&◌, nat_lt, unsigned_abs, List, [], ◌∷◌, ◌++◌, slice_index_or, slice_set, if◌then◌else◌}
use Rattle.tk_base.specs.declared.ids.Feeder.{Feeder}
use Rattle.tk_monitor.specs.Monitored.{MonitorView}
use Rattle.tk_monitor.specs.declared.outcome.Raised.{Raised}
use Rattle.tk_monitor.specs.declared.outcome.Raised.TheVariants as r
use Rattle.tk_trail.specs.Growing.{grown}
use Rattle.tk_trail.specs.Legal.{HasNext, part_length}
use Rattle.tk_trail.specs.Readings.{is_broken, value_of_object}
use Rattle.tk_trail.specs.declared.entry.Entry.TheVariants as e
use Rattle.tk_compact.specs.Anew.{size_of_values}
use Rattle.tk_compact.specs.Room.{IsClosedAt, IsOpenAt, share_in}
use Rattle.tk_wire.specs.Meanings.{raised_by}
use Rattle.tk_watch.specs.Standing.{port_over}
use Rattle.tk_watch.specs.Watch.{WatchView, refilled}
use Rattle.tk_watch.specs.declared.told.Told.{Told}
use Rattle.tk_watch.specs.declared.told.Told.TheVariants as t

-- whether a part of such a length, and sizes of such a sum, leave room for one more
abbrev pub has_room : ℕ → ℕ → ℕ → Bool
has_room length weight size = nat_lt length 1000000 && not (nat_lt (2 ^ 100) (weight + size))

-- whether a watch has room for a record in its session
abbrev pub fits_in : {W : Type 0} → WatchView W → Feeder → ℕ × ℤ → Bool
fits_in w f change = has_room (part_length w.monitor.setup f.0) w.weight (unsigned_abs change.1)

-- the counts with one record more of a stream, which stand still at the greatest u64
abbrev pub counted : List ℕ → ℕ → List ℕ
counted counts g = slice_set counts (g - 1) (raised_by 1 (slice_index_or counts (g - 1) 0))

-- a monitor that was told a record, and raised it at once
abbrev pub told_of : MonitorView → Feeder → ℕ × ℤ → MonitorView
told_of monitor f change = record monitor {
  setup = grown monitor.setup f.0 change;
  trail = monitor.trail ++ e.Raised f ∷ [];
}

-- a monitor in place of a watch's own
abbrev pub with_monitor : {W : Type 0} → WatchView W → MonitorView → WatchView W
with_monitor w monitor = record w { monitor = monitor; port = port_over w.port monitor }

-- a record of an open stream was told and raised at once: the value of its object moves by it, and each other stays
pub record Counts {W : Type 0} (old : WatchView W) (f : Feeder) (change : ℕ × ℤ) (broken : Bool) (new : WatchView W) : Type 0 where
  pub opened : HasNext old.monitor.setup old.monitor.trail f.0
  pub told : new ≡ record (with_monitor old (told_of old.monitor f change)) {
    weight = old.weight + unsigned_abs change.1;
    counts = counted old.counts f.0;
  }
  pub values : (o : ℕ) → value_of_object new.monitor.setup new.monitor.trail o
      ≡ value_of_object old.monitor.setup old.monitor.trail o +ℤ share_in o change
  pub broken_is : broken ≡ is_broken new.monitor.setup new.monitor.trail

-- the watch at which a record is told: behind a new base where it has no room in the session
abbrev pub made_room : {W : Type 0} → Bool → WatchView W → WatchView W
made_room fresh old = if fresh then refilled old else old

-- what becomes of a record, and what that leaves
abbrev pub Tells : {W : Type 0} → WatchView W → Feeder → ℕ × ℤ → Told → WatchView W → Type 0
Tells old f change (t.Done broken fresh) new =
    (fresh ≡ not (fits_in old f change)) × Counts (made_room fresh old) f change broken new
Tells old f change t.Closed new = IsClosedAt old.monitor.setup old.monitor.trail f.0 × (new ≡ old)
Tells old f change t.TooGreat new =
    (fits_in old f change ≡ false)
    × ((2 ^ 100 < size_of_values old.monitor.setup old.monitor.trail + unsigned_abs change.1) × (new ≡ old))
Tells old f change t.NoMemory new = (new ≡ old) ⊎ (new ≡ refilled old)

-- the closing record of a stream was raised, unless it was before
abbrev pub Closes : {W : Type 0} → WatchView W → Feeder → Raised → WatchView W → Type 0
Closes old f (r.Done broken) new =
    IsOpenAt old.monitor.setup old.monitor.trail f.0
    × ((new ≡ record (with_monitor old (record old.monitor { trail = old.monitor.trail ++ e.Raised f ∷ [] })) { counts = counted old.counts f.0 })
    × (broken ≡ is_broken new.monitor.setup new.monitor.trail))
Closes old f r.Ended new = IsClosedAt old.monitor.setup old.monitor.trail f.0 × (new ≡ old)

-- a record that there is room for was told, unless there was no memory for it
abbrev pub CountsUnlessMemory : {W : Type 0} → WatchView W → Feeder → ℕ × ℤ → Bool → Told → WatchView W → Type 0
CountsUnlessMemory old f change fresh (t.Done broken anew) new = (anew ≡ fresh) × Counts old f change broken new
CountsUnlessMemory old f change fresh t.Closed new = ⊥
CountsUnlessMemory old f change fresh t.TooGreat new = ⊥
CountsUnlessMemory old f change fresh t.NoMemory new = new ≡ old
