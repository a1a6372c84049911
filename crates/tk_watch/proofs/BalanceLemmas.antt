-- The values are what the windows hold, whatever is told, taken back or begun anew.
use Rattle.std.proofs.Common.{◌≡◌, ℕ, ◌-◌, ◌<◌, ◌≤◌, ℤ, pos, ◌+ℤ◌, List, [], ◌∷◌, ◌++◌, length, get_or, set, drop, inl, inr, Some, refl, sym, ap, ◌∙◌, subst, arith}
use Rattle.std.specs.Prelude.{Err, Ok, OnErr, OnOk, Result, slice_get}
use Rattle.std.proofs.lemmas.Bool.{cases_eq}
use Rattle.std.proofs.lemmas.Int.{ints}
use Rattle.std.proofs.lemmas.List.{get_or-set_other, get_or-set_same, length-replicate, length-set}
use Rattle.tk_base.specs.declared.ids.Feeder.{Feeder}
use Rattle.tk_input.specs.Logs.{IsObject, value_of}
use Rattle.tk_input.proofs.SumLemmas.{by_at}
use Rattle.tk_monitor.specs.Monitored.{MonitorView}
use Rattle.tk_monitor.specs.declared.outcome.Raised.{Raised as Raising}
use Rattle.tk_monitor.specs.declared.outcome.Raised.TheVariants as r
use Rattle.tk_recent.specs.Kept.{Kept, fresh, noted, sum_with, taken, ticked}
use Rattle.tk_trail.specs.Legal.{HasNext}
use Rattle.tk_trail.specs.Readings.{places_at, value_of_object}
use Rattle.tk_trail.specs.Setup.{MonitorSetup}
use Rattle.tk_trail.specs.declared.entry.Entry.TheVariants.{Raised}
use Rattle.tk_compact.proofs.AsBeforeLemmas.{begins_as_before}
use Rattle.tk_compact.proofs.ToldLemmas.{closed_once}
use Rattle.tk_port.proofs.ExchangeLemmas.{reaches_setup}
use Rattle.tk_watch.specs.Told.{Closes, Tells}
use Rattle.tk_watch.specs.Watch.{Begins, IsWatch, Named, Turns, WatchView, named_of, refilled}
use Rattle.tk_watch.specs.Windows.{AreBalanced, AreWindows, IsKnownIn, Notes, Takes, held, held_by, ticked_in, window_of}
use Rattle.tk_watch.specs.declared.told.Told.{Told}
use Rattle.tk_watch.specs.declared.told.Told.TheVariants as t
use Rattle.tk_watch.specs.declared.turned.Turned.{Turned}
use Rattle.tk_watch.proofs.EachLemmas.{room_values}
use Rattle.tk_watch.proofs.HeldLemmas.{held-noted, held-taken, held-ticked, held_by-set}
use Rattle.tk_watch.proofs.NamedLemmas.{tells_named}
use Rattle.tk_watch.proofs.TakingLemmas.{first_back}
use Rattle.tk_watch.proofs.TurningLemmas.{reaches_places}

-- ---- windows

-- each object of the catalogue is known
pub known_in : (named : Named) (ks : List Kept) (g o : ℕ) → AreWindows named ks → IsObject named.objects o → IsKnownIn ks g o
known_in named ks g o are is within = subst (λ n. IsObject n o) (sym (are.objects (g - 1) within)) is

-- another window in the place of one
windows_set : (named : Named) (ks : List Kept) (i : ℕ) (k : Kept) → AreWindows named ks → (i < length ks → length k.sums ≡ named.objects) → AreWindows named (set ks i k)
windows_set named ks i k are is =
    let size : length (set ks i k) ≡ length ks = length-set ks i k in
    record {
      streams = λ some. size ∙ are.streams (omega (arith, some, size));
      objects = λ j within. (
          let inside : j < length ks = omega (arith, within, size) in
          elim (cases_eq j i) [
            | inl same ↦
                let here : i < length ks = omega (arith, same, inside) in
                ap (λ n. length (get_or (set ks i k) n (fresh 0 0)).sums) same
                ∙ ap (λ (w : Kept). length w.sums) (get_or-set_same ks i k (fresh 0 0) here)
                ∙ is here
            | inr apart ↦ ap (λ (w : Kept). length w.sums) (get_or-set_other ks i j k (fresh 0 0) apart) ∙ are.objects j inside
          ]);
    }

pub windows_noted : (named : Named) (ks new : List Kept) (g : ℕ) (c : ℕ × ℤ) (told : Told) → AreWindows named ks → Notes ks g c told new → AreWindows named new
windows_noted named ks new g c (t.Done broken fresh) are notes =
    let k = window_of ks g in
    subst (AreWindows named) (sym notes) (windows_set named ks (g - 1) (noted k c) are (λ within. length-set k.sums (c.0 - 1) (sum_with k.sums c) ∙ are.objects (g - 1) within))
windows_noted named ks new g c t.Closed are notes = subst (AreWindows named) (sym notes) are
windows_noted named ks new g c t.TooGreat are notes = subst (AreWindows named) (sym notes) are
windows_noted named ks new g c t.NoMemory are notes = subst (AreWindows named) (sym notes) are

pub windows_taken : (named : Named) (ks new : List Kept) (g : ℕ) (told : Told) → AreWindows named ks → Takes ks g told new → AreWindows named new
windows_taken named ks new g (t.Done broken fresh) are takes =
    subst (AreWindows named) (sym takes) (windows_set named ks (g - 1) (taken (window_of ks g)) are (λ within. are.objects (g - 1) within))
windows_taken named ks new g t.Closed are takes = subst (AreWindows named) (sym takes) are
windows_taken named ks new g t.TooGreat are takes = subst (AreWindows named) (sym takes) are
windows_taken named ks new g t.NoMemory are takes = subst (AreWindows named) (sym takes) are

pub windows_ticked : (named : Named) (ks new : List Kept) (g : ℕ) → AreWindows named ks → new ≡ ticked_in ks g → AreWindows named new
windows_ticked named ks new g are is =
    let k = window_of ks g in
    subst (AreWindows named) (sym is) (windows_set named ks (g - 1) (ticked k) are (λ within. length-replicate (length k.sums) (pos 0) ∙ are.objects (g - 1) within))

-- ---- by how much a change that was told so moves an object

abbrev pub moved_by : Told → ℕ → ℕ × ℤ → ℤ
moved_by (t.Done broken fresh) o c = by_at o c
moved_by t.Closed o c = pos 0
moved_by t.TooGreat o c = pos 0
moved_by t.NoMemory o c = pos 0

bare : (s : ℤ) → s ≡ s +ℤ pos 0
bare s = omega (arith, ints)

same_value : {W : Type 0} (old new : WatchView W) (o : ℕ) → new ≡ old → value_of_object new.monitor.setup new.monitor.trail o ≡ value_of_object old.monitor.setup old.monitor.trail o +ℤ pos 0
same_value old new o is = ap (λ (w : WatchView _). value_of_object w.monitor.setup w.monitor.trail o) is ∙ bare (value_of_object old.monitor.setup old.monitor.trail o)

refilled_value : {W : Type 0} (old : WatchView W) (o : ℕ) → IsWatch old → value_of_object (refilled old).monitor.setup (refilled old).monitor.trail o ≡ value_of_object old.monitor.setup old.monitor.trail o
refilled_value old o is = (begins_as_before old.monitor.setup old.monitor.trail is.within is.legal).1 o

pub told_value : {W : Type 0} (old new : WatchView W) (f : Feeder) (c : ℕ × ℤ) (told : Told) (o : ℕ) → IsWatch old → Tells old f c told new
    → value_of_object new.monitor.setup new.monitor.trail o ≡ value_of_object old.monitor.setup old.monitor.trail o +ℤ moved_by told o c
told_value old new f c (t.Done broken fresh) o is tells = tells.1.values o ∙ ap (λ v. v +ℤ by_at o c) (room_values old fresh o is)
told_value old new f c t.Closed o is tells = same_value old new o tells.1
told_value old new f c t.TooGreat o is tells = same_value old new o tells.1.1
told_value old new f c t.NoMemory o is tells = elim tells [
  | inl same ↦ same_value old new o same
  | inr anew ↦
      let v = value_of_object old.monitor.setup old.monitor.trail o in
      ap (λ (w : WatchView _). value_of_object w.monitor.setup w.monitor.trail o) anew ∙ refilled_value old o is ∙ bare v
]

same_held : (ks new : List Kept) (o : ℕ) → new ≡ ks → held_by o new ≡ held_by o ks +ℤ pos 0
same_held ks new o is = ap (held_by o) is ∙ bare (held_by o ks)

noted_held : (named : Named) (ks new : List Kept) (g o : ℕ) (c : ℕ × ℤ) (told : Told) → AreWindows named ks → g - 1 < length ks → IsObject named.objects c.0 → IsObject named.objects o → Notes ks g c told new
    → held_by o new ≡ held_by o ks +ℤ moved_by told o c
noted_held named ks new g o c (t.Done broken fresh) are within is at notes =
    let k = window_of ks g in
    ap (held_by o) notes ∙ held_by-set ks (g - 1) o (noted k c) (by_at o c) within (held-noted k c o (known_in named ks g c.0 are is within) (known_in named ks g o are at within))
noted_held named ks new g o c t.Closed are within is at notes = same_held ks new o notes
noted_held named ks new g o c t.TooGreat are within is at notes = same_held ks new o notes
noted_held named ks new g o c t.NoMemory are within is at notes = same_held ks new o notes

taken_held : (ks new : List Kept) (g o : ℕ) (c : ℕ × ℤ) (told : Told) → g - 1 < length ks → slice_get (window_of ks g).back 0 ≡ Some c → Takes ks g told new
    → held_by o new ≡ held_by o ks +ℤ moved_by told o c
taken_held ks new g o c (t.Done broken fresh) within first takes =
    let k = window_of ks g in
    ap (held_by o) takes ∙ held_by-set ks (g - 1) o (taken k) (by_at o c) within (held-taken k c (drop 1 k.back) o (first_back k.back c (sym first)))
taken_held ks new g o c t.Closed within first takes = same_held ks new o takes
taken_held ks new g o c t.TooGreat within first takes = same_held ks new o takes
taken_held ks new g o c t.NoMemory within first takes = same_held ks new o takes

-- ---- balance

length-noted : (ks new : List Kept) (g : ℕ) (c : ℕ × ℤ) (told : Told) → Notes ks g c told new → length new ≡ length ks
length-noted ks new g c (t.Done broken fresh) notes = ap (λ (xs : List Kept). length xs) notes ∙ length-set ks (g - 1) (noted (window_of ks g) c)
length-noted ks new g c t.Closed notes = ap (λ (xs : List Kept). length xs) notes
length-noted ks new g c t.TooGreat notes = ap (λ (xs : List Kept). length xs) notes
length-noted ks new g c t.NoMemory notes = ap (λ (xs : List Kept). length xs) notes

length-taken : (ks new : List Kept) (g : ℕ) (told : Told) → Takes ks g told new → length new ≡ length ks
length-taken ks new g (t.Done broken fresh) takes = ap (λ (xs : List Kept). length xs) takes ∙ length-set ks (g - 1) (taken (window_of ks g))
length-taken ks new g t.Closed takes = ap (λ (xs : List Kept). length xs) takes
length-taken ks new g t.TooGreat takes = ap (λ (xs : List Kept). length xs) takes
length-taken ks new g t.NoMemory takes = ap (λ (xs : List Kept). length xs) takes

-- a stream of the monitor has a window where there are any
has_window : (named : Named) (ks : List Kept) (g : ℕ) → AreWindows named ks → 1 ≤ g → g ≤ named.streams → 0 < length ks → g - 1 < length ks
has_window named ks g are low high some = omega (arith, are.streams some, low, high)

-- a record that was told and noted
pub noted_balanced : {W : Type 0} (named : Named) (old new : WatchView W) (ks after : List Kept) (f : Feeder) (c : ℕ × ℤ) (told : Told)
    → named_of old ≡ named → IsWatch old → AreWindows named ks → 1 ≤ f.0 → f.0 ≤ named.streams → IsObject named.objects c.0
    → Tells old f c told new → Notes ks f.0 c told after → AreBalanced old.monitor ks → AreBalanced new.monitor after
noted_balanced named old new ks after f c told is kept are low high known tells notes balanced some o at =
    let there : 0 < length ks = omega (arith, some, length-noted ks after f.0 c told notes) in
    let objects_ : new.monitor.setup.objects ≡ old.monitor.setup.objects = ap (λ (n : Named). n.objects) (tells_named old new f c told kept tells) in
    let object : IsObject old.monitor.setup.objects o = subst (λ n. IsObject n o) objects_ at in
    let object_named : IsObject named.objects o = subst (λ n. IsObject n o) (ap (λ (n : Named). n.objects) is) object in
    told_value old new f c told o kept tells
    ∙ ap (λ v. v +ℤ moved_by told o c) (balanced there o object)
    ∙ sym (noted_held named ks after f.0 o c told are (has_window named ks f.0 are low high there) known object_named notes)

-- a change that was told and taken back
pub taken_balanced : {W : Type 0} (named : Named) (old new : WatchView W) (ks after : List Kept) (f : Feeder) (c : ℕ × ℤ) (told : Told)
    → IsWatch old → AreWindows named ks → 1 ≤ f.0 → f.0 ≤ named.streams → slice_get (window_of ks f.0).back 0 ≡ Some c
    → Tells old f c told new → Takes ks f.0 told after → AreBalanced old.monitor ks → AreBalanced new.monitor after
taken_balanced named old new ks after f c told kept are low high first tells takes balanced some o at =
    let there : 0 < length ks = omega (arith, some, length-taken ks after f.0 told takes) in
    let objects_ : new.monitor.setup.objects ≡ old.monitor.setup.objects = ap (λ (n : Named). n.objects) (tells_named old new f c told kept tells) in
    told_value old new f c told o kept tells
    ∙ ap (λ v. v +ℤ moved_by told o c) (balanced there o (subst (λ n. IsObject n o) objects_ at))
    ∙ sym (taken_held ks after f.0 o c told (has_window named ks f.0 are low high there) first takes)

-- a tick that ended
pub ticked_balanced : (named : Named) (m : MonitorView) (ks after : List Kept) (g : ℕ)
    → m.setup.objects ≡ named.objects → AreWindows named ks → 1 ≤ g → g ≤ named.streams → (window_of ks g).back ≡ [] → after ≡ ticked_in ks g
    → AreBalanced m ks → AreBalanced m after
ticked_balanced named m ks after g objects_ are low high settled is balanced some o at =
    let k = window_of ks g in
    let size : length after ≡ length ks = ap (λ (xs : List Kept). length xs) is ∙ length-set ks (g - 1) (ticked k) in
    let there : 0 < length ks = omega (arith, some, size) in
    let within = has_window named ks g are low high there in
    let known = known_in named ks g o are (subst (λ n. IsObject n o) objects_ at) within in
    balanced there o at
    ∙ bare (held_by o ks)
    ∙ sym (ap (held_by o) is ∙ held_by-set ks (g - 1) o (ticked k) (pos 0) within (held-ticked k o settled known ∙ bare (held o k)))

-- a tick that may have ended
pub either_windows : {T E : Type 0} (result : Result T E) (named : Named) (ks after : List Kept) (g : ℕ) → AreWindows named ks → OnOk result (after ≡ ticked_in ks g) → OnErr result (after ≡ ks) → AreWindows named after
either_windows (Ok x) named ks after g are ended same = windows_ticked named ks after g are ended
either_windows (Err e) named ks after g are ended same = subst (AreWindows named) (sym same) are

pub either_balanced : {T E : Type 0} (result : Result T E) (named : Named) (m : MonitorView) (ks after : List Kept) (g : ℕ)
    → m.setup.objects ≡ named.objects → AreWindows named ks → 1 ≤ g → g ≤ named.streams → (window_of ks g).back ≡ [] → OnOk result (after ≡ ticked_in ks g) → OnErr result (after ≡ ks)
    → AreBalanced m ks → AreBalanced m after
either_balanced (Ok x) named m ks after g objects_ are low high settled ended same balanced = ticked_balanced named m ks after g objects_ are low high settled ended balanced
either_balanced (Err e) named m ks after g objects_ are low high settled ended same balanced = subst (λ (ws : List Kept). AreBalanced m ws) (sym same) balanced

-- another monitor of the same values
same_balanced : (old new : MonitorView) (ks : List Kept) → new.setup.objects ≡ old.setup.objects → ((o : ℕ) → value_of_object new.setup new.trail o ≡ value_of_object old.setup old.trail o) → AreBalanced old ks → AreBalanced new ks
same_balanced old new ks objects_ values balanced some o at = values o ∙ balanced some o (subst (λ n. IsObject n o) objects_ at)

-- one that begins anew
pub begun_balanced : {W : Type 0} (old new : WatchView W) (ks : List Kept) → IsWatch old → Begins old new → AreBalanced old.monitor ks → AreBalanced new.monitor ks
begun_balanced old new ks is begins balanced =
    let monitor = ap (λ (w : WatchView _). w.monitor) begins.joined in
    subst (λ (m : MonitorView). AreBalanced m ks) (sym monitor) (same_balanced old.monitor (refilled old).monitor ks refl (λ o. refilled_value old o is) balanced)

-- one that took frames and was checked
pub turned_balanced : {W : Type 0} (turned : Turned) (old new : WatchView W) (ks : List Kept) → Turns turned old new → AreBalanced old.monitor ks → AreBalanced new.monitor ks
unfolding value_of_object
turned_balanced turned old new ks turns balanced =
    let setup : new.monitor.setup ≡ old.monitor.setup = (reaches_setup old.monitor new.monitor turns.reaches).1 in
    let places = reaches_places old.monitor new.monitor turns.reaches in
    same_balanced old.monitor new.monitor ks (ap (λ (s : MonitorSetup). s.objects) setup)
    (λ o. ap (λ (s : MonitorSetup). value_of s.parts (places_at new.monitor.setup new.monitor.trail) o) setup ∙ ap (λ (ps : List ℕ). value_of old.monitor.setup.parts ps o) places)
    balanced

-- one whose stream closed
pub closed_balanced : {W : Type 0} (old new : WatchView W) (f : Feeder) (raised : Raising) (ks : List Kept) → IsWatch old → 1 ≤ f.0 → f.0 ≤ length old.monitor.setup.parts → Closes old f raised new → AreBalanced old.monitor ks → AreBalanced new.monitor ks
closed_balanced old new f (r.Done broken) ks is low high closes balanced =
    let m = old.monitor in
    let next : HasNext m.setup m.trail f.0 = record { from_one = low; one_of = high; not_ended = omega (arith, closes.0.one_left) } in
    let once = closed_once m.setup m.trail f is.within is.legal is.waits next in
    let monitor = ap (λ (w : WatchView _). w.monitor) closes.1.0 in
    subst (λ (n : MonitorView). AreBalanced n ks) (sym monitor) (same_balanced m (record m { trail = m.trail ++ Raised f ∷ [] }) ks refl once.1.1.1 balanced)
closed_balanced old new f r.Ended ks is low high closes balanced = subst (λ (w : WatchView _). AreBalanced w.monitor ks) (sym closes.1) balanced
