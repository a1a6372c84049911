-- What becomes of changes that are told in order, up to the first that does not count.
use Rattle.std.specs.Prelude.{◌≡◌, ◌≢◌, ◌⊎◌, ℕ, zero, suc, ◌+◌, ◌-◌, ◌^◌, ◌<◌, ℤ, ◌+ℤ◌, Bool, List, [], ◌∷◌, ◌++◌, length, slice_index_or, unsigned_abs}
use Rattle.tk_base.specs.declared.ids.Feeder.{Feeder}
use Rattle.tk_base.specs.declared.ids.Obj.{Obj}
use Rattle.tk_compact.specs.Anew.{size_of_values}
use Rattle.tk_compact.specs.Room.{IsClosedAt}
use Rattle.tk_input.specs.Logs.{sum_for}
use Rattle.tk_recent.specs.Kept.{Kept}
use Rattle.tk_trail.specs.Readings.{value_of_object}
use Rattle.tk_wire.specs.Meanings.{raised_by}
use Rattle.tk_watch.specs.Told.{Tells}
use Rattle.tk_watch.specs.Watch.{IsWatch, WatchView, refilled}
use Rattle.tk_watch.specs.Windows.{IsTickTooGreat}
use Rattle.tk_watch.specs.declared.told.Told.TheVariants as t
use Rattle.tk_watch.specs.declared.untold.Untold.{Untold}
use Rattle.tk_watch.specs.declared.untold.Untold.TheVariants as u

-- ---- all of them

-- a change was told, and counts
pub record CountsOnce {W : Type 0} (old : WatchView W) (f : Feeder) (c : ℕ × ℤ) (new : WatchView W) : Type 0 where
  pub broken : Bool
  pub fresh : Bool
  pub tells : Tells old f c (t.Done broken fresh) new
  pub kept : IsWatch new

-- changes of a stream were told in order, and each counts
abbrev pub TellsEach : {W : Type 0} → WatchView W → Feeder → List (ℕ × ℤ) → WatchView W → Type 0
TellsEach old f [] new = new ≡ old
TellsEach old f (c ∷ cs) new = (now : WatchView _) × (CountsOnce old f c now × TellsEach now f cs new)

-- a count that rises by one so often, and stands still at the greatest u64
abbrev pub risen : ℕ → ℕ → ℕ
risen zero count = count
risen (suc n) count = risen n (raised_by 1 count)

-- what changes come to that were told: the count of their stream rises by their number and no other, and each value by their sum
pub record Rises {W : Type 0} (old : WatchView W) (f : Feeder) (cs : List (ℕ × ℤ)) (new : WatchView W) : Type 0 where
  pub count : slice_index_or new.counts (f.0 - 1) 0 ≡ risen (length cs) (slice_index_or old.counts (f.0 - 1) 0)
  pub others : (i : ℕ) → i ≢ f.0 - 1 → slice_index_or new.counts i 0 ≡ slice_index_or old.counts i 0
  pub values : (o : ℕ) → value_of_object new.monitor.setup new.monitor.trail o
      ≡ value_of_object old.monitor.setup old.monitor.trail o +ℤ sum_for o cs

-- ---- up to one

-- the next change is of this object, and with it the values would be too great, or the sum in the tick that runs
pub record IsTooGreat {W : Type 0} (w : WatchView W) (ks : List Kept) (f : Feeder) (obj : Obj) (rest : List (ℕ × ℤ)) : Type 0 where
  pub next : ℕ × ℤ
  pub behind : List (ℕ × ℤ)
  pub parted : rest ≡ next ∷ behind
  pub object : next.0 ≡ obj.0
  pub great : (2 ^ 100 < size_of_values w.monitor.setup w.monitor.trail + unsigned_abs next.1) ⊎ IsTickTooGreat ks f.0 next

-- why no more is told, and what that leaves
abbrev pub IsUntold : {W : Type 0} → Untold → WatchView W → Feeder → List (ℕ × ℤ) → List Kept → WatchView W → Type 0
IsUntold u.Closed old f rest ks new = IsClosedAt old.monitor.setup old.monitor.trail f.0 × (new ≡ old)
IsUntold (u.TooGreat obj) old f rest ks new = IsTooGreat old ks f obj rest × (new ≡ old)
IsUntold u.NoMemory old f rest ks new = (new ≡ old) ⊎ (new ≡ refilled old)

-- changes in front were told, and behind them no more are, by windows that stay so
pub record Stops {W : Type 0} (old : WatchView W) (f : Feeder) (due : List (ℕ × ℤ)) (untold : Untold) (ks : List Kept) (new : WatchView W) : Type 0 where
  pub front : List (ℕ × ℤ)
  pub rest : List (ℕ × ℤ)
  pub parted : due ≡ front ++ rest
  pub behind : WatchView W
  pub each : TellsEach old f front behind
  pub why : IsUntold untold behind f rest ks new
