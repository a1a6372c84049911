-- What the windows of a monitor's streams hold, and what a record and the end of a tick do to them.
use Rattle.std.specs.Prelude.{◌≡◌, ◌⊎◌, ℕ, ◌-◌, ◌^◌, ◌<◌, ◌≤◌, ℤ, pos, ◌+ℤ◌, ◌-ℤ◌, unsigned_abs, List, [], ◌++◌, length, map, flat_map, fold, replicate, slice_index_or, slice_set, ⊤}
use Rattle.tk_base.specs.Sum.{int_sum}
use Rattle.tk_base.specs.declared.ids.Feeder.{Feeder}
use Rattle.tk_input.specs.Changes.{pair_of}
use Rattle.tk_input.specs.Logs.{IsObject, sum_for}
use Rattle.tk_monitor.specs.Monitored.{MonitorView}
use Rattle.tk_recent.specs.Kept.{Kept, fresh, noted, sum_with, taken, ticked}
use Rattle.tk_recent.specs.Run.{Run, given}
use Rattle.tk_stream.specs.declared.item.Item.{Item}
use Rattle.tk_stream.specs.declared.item.Item.TheVariants as i
use Rattle.tk_trail.specs.Readings.{value_of_object}
use Rattle.tk_watch.specs.Told.{Tells}
use Rattle.tk_watch.specs.Watch.{Named, WatchView}
use Rattle.tk_watch.specs.declared.told.Told.{Told}
use Rattle.tk_watch.specs.declared.told.Told.TheVariants as t

-- ---- the windows of streams, one for each, or none at all

-- that of a stream
abbrev pub window_of : List Kept → ℕ → Kept
window_of ks g = slice_index_or ks (g - 1) (fresh 0 0)

-- before the first record
abbrev pub fresh_windows : ℕ → ℕ → ℕ → List Kept
fresh_windows streams objects width = replicate streams (fresh objects width)

-- a record of a stream more
abbrev pub noted_in : List Kept → ℕ → ℕ × ℤ → List Kept
noted_in ks g c = slice_set ks (g - 1) (noted (window_of ks g) c)

-- the tick of a stream ends
abbrev pub ticked_in : List Kept → ℕ → List Kept
ticked_in ks g = slice_set ks (g - 1) (ticked (window_of ks g))

-- one change of a stream was taken back
abbrev pub taken_in : List Kept → ℕ → List Kept
taken_in ks g = slice_set ks (g - 1) (taken (window_of ks g))

-- all that was to be taken back of a stream was
abbrev pub settled_in : List Kept → ℕ → List Kept
settled_in ks g = slice_set ks (g - 1) (record (window_of ks g) { back = [] })

-- ---- records

-- a record of a stream is one of an object that its window knows, where it has one
abbrev pub IsKnownIn : List Kept → ℕ → ℕ → Type 0
IsKnownIn ks g o = g - 1 < length ks → IsObject (length (window_of ks g).sums) o

-- with it the sum of its object in the tick that runs has 127 bits, where it has one
abbrev pub FitsIn : List Kept → ℕ → ℕ × ℤ → Type 0
FitsIn ks g c = g - 1 < length ks → unsigned_abs (sum_with (window_of ks g).sums c) < 2 ^ 127

-- it has not
pub record IsTickTooGreat (ks : List Kept) (g : ℕ) (c : ℕ × ℤ) : Type 0 where
  pub window : g - 1 < length ks
  pub sum : 2 ^ 127 ≤ unsigned_abs (sum_with (window_of ks g).sums c)

-- a record is told unless it does not fit the tick that runs
abbrev pub TellsWithin : {W : Type 0} → List Kept → WatchView W → Feeder → ℕ × ℤ → Told → WatchView W → Type 0
TellsWithin ks old f c (t.Done broken fresh) new = Tells old f c (t.Done broken fresh) new
TellsWithin ks old f c t.Closed new = Tells old f c t.Closed new
TellsWithin ks old f c t.TooGreat new = Tells old f c t.TooGreat new ⊎ (IsTickTooGreat ks f.0 c × (new ≡ old))
TellsWithin ks old f c t.NoMemory new = Tells old f c t.NoMemory new

-- a record is noted where it counts
abbrev pub Notes : List Kept → ℕ → ℕ × ℤ → Told → List Kept → Type 0
Notes old g c (t.Done broken fresh) new = new ≡ noted_in old g c
Notes old g c t.Closed new = new ≡ old
Notes old g c t.TooGreat new = new ≡ old
Notes old g c t.NoMemory new = new ≡ old

-- a change is taken back where it counts
abbrev pub Takes : List Kept → ℕ → Told → List Kept → Type 0
Takes old g (t.Done broken fresh) new = new ≡ taken_in old g
Takes old g t.Closed new = new ≡ old
Takes old g t.TooGreat new = new ≡ old
Takes old g t.NoMemory new = new ≡ old

-- ---- what is told of what a stream gives

-- a record is of one of so many objects
abbrev pub IsItemIn : ℕ → Item → Type 0
IsItemIn objects (i.Record c) = IsObject objects c.obj.0
IsItemIn objects i.Tick = ⊤

-- what is told at the end of a tick: what is still to be taken back, and what the tick moves out of the window
abbrev pub told_at_tick : Kept → List (ℕ × ℤ)
told_at_tick k = k.back ++ (ticked k).back

-- the window then
abbrev pub after_tick : Kept → Kept
after_tick k = record (ticked k) { back = [] }

-- the windows then
abbrev pub ended_in : List Kept → ℕ → List Kept
ended_in ks g = slice_set ks (g - 1) (after_tick (window_of ks g))

-- a record is noted and told, and at the end of a tick that is told
abbrev pub taking : Run → Item → Run
taking r (i.Record c) = given r (pair_of c)
taking r i.Tick = record { kept = after_tick r.kept; told = r.told ++ told_at_tick r.kept }

-- of what a stream gives, from a window on
abbrev pub run_on : Kept → List Item → Run
run_on k items = fold taking (record { kept = k; told = [] }) items

-- ---- what they hold

-- what a window holds of an object: the ended ticks in it, the tick that runs, and what is still to be taken back
abbrev pub held : ℕ → Kept → ℤ
held o k = slice_index_or k.sums (o - 1) (pos 0) -ℤ (sum_for o (flat_map (λ tick. tick) k.ended) +ℤ sum_for o k.back)

-- what all windows hold of it
abbrev pub held_by : ℕ → List Kept → ℤ
held_by o ks = int_sum (map (held o) ks)

-- windows of a monitor's streams, over its objects
pub record AreWindows (named : Named) (ks : List Kept) : Type 0 where
  pub streams : 0 < length ks → length ks ≡ named.streams
  pub objects : (i : ℕ) → i < length ks → length (slice_index_or ks i (fresh 0 0)).sums ≡ named.objects

-- where there are windows, each value is what they hold of its object
abbrev pub AreBalanced : MonitorView → List Kept → Type 0
AreBalanced monitor ks =
    0 < length ks → (o : ℕ) → IsObject monitor.setup.objects o → value_of_object monitor.setup monitor.trail o ≡ held_by o ks
