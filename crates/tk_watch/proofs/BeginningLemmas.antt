-- The values and the windows of streams that gave nothing yet.
use Rattle.std.proofs.Common.{◌≡◌, ℕ, zero, suc, ◌-◌, ℤ, pos, List, [], ◌∷◌, length, map, take, refl, sym, ap, ◌∙◌, arith, Option, None, Some}
use Rattle.std.specs.Prelude.{replicate}
use Rattle.std.specs.List.{zip}
use Rattle.std.proofs.lemmas.Int.{ints}
use Rattle.std.proofs.lemmas.List.{get_or-replicate, length-replicate}
use Rattle.tk_base.specs.Settings.{Setup}
use Rattle.tk_base.proofs.SumLemmas.{int_sum-cons}
use Rattle.tk_input.specs.Changes.{closing}
use Rattle.tk_input.specs.Logs.{sum_for, value_of}
use Rattle.tk_rows.proofs.SumLemmas.{zeros_at}
use Rattle.tk_recent.specs.Kept.{Kept, fresh as fresh_window}
use Rattle.tk_trail.specs.Readings.{value_of_object}
use Rattle.tk_trail.proofs.PlacesLemmas.{places_at-start}
use Rattle.tk_watch.specs.Fresh.{IsUncounted, windows_for}
use Rattle.tk_watch.specs.Watch.{Named, WatchView, fresh, unfed}
use Rattle.tk_watch.specs.Windows.{AreBalanced, AreWindows, held, held_by}
use Rattle.tk_watch.specs.declared.plan.Window.{Window}

-- ---- values

value_unfed : (n o : ℕ) → value_of (replicate n (closing ∷ [])) (replicate n 0) o ≡ pos 0
value_unfed zero o = refl
value_unfed (suc n) o =
    omega (arith, ints, int_sum-cons (pos 0) (map (λ (p : List (ℕ × ℤ) × ℕ). sum_for o (take p.1 p.0)) (zip (replicate n (closing ∷ [])) (replicate n 0))), value_unfed n o)

pub fresh_uncounted : (W : Type 0) (settings : Setup) (number streams run version : ℕ) → IsUncounted (fresh {W = W} settings number streams run version)
unfolding value_of_object
fresh_uncounted W settings number streams run version o =
    let m = unfed settings number streams in
    ap (λ (ps : List ℕ). value_of m.setup.parts ps o) (places_at-start m.setup) ∙ value_unfed streams o

-- ---- windows

pub fresh_are : (named : Named) (window : Option Window) → AreWindows named (windows_for window named.streams named.objects)
fresh_are named None = record { streams = λ some. absurd (omega (arith, some)); objects = λ i within. absurd (omega (arith, within)) }
fresh_are named (Some window) =
    let k = fresh_window named.objects window.width in
    let size : length (replicate named.streams k) ≡ named.streams = length-replicate named.streams k in
    record {
      streams = λ some. size;
      objects = λ i within. (
          ap (λ (w : Kept). length w.sums) (get_or-replicate named.streams i k (fresh_window 0 0) (omega (arith, within, size)))
          ∙ length-replicate named.objects (pos 0));
    }

held_fresh : (n width o : ℕ) → held o (fresh_window n width) ≡ pos 0
held_fresh n width o = let zero_ = zeros_at n (o - 1) in omega (arith, ints, zero_)

held_none : (s n width o : ℕ) → held_by o (replicate s (fresh_window n width)) ≡ pos 0
held_none zero n width o = refl
held_none (suc s) n width o =
    omega (arith, ints, int_sum-cons (held o (fresh_window n width)) (map (held o) (replicate s (fresh_window n width))), held_fresh n width o, held_none s n width o)

pub fresh_balanced : {W : Type 0} (named : Named) (w : WatchView W) (window : Option Window) → IsUncounted w → AreBalanced w.monitor (windows_for window named.streams named.objects)
fresh_balanced named w None none some o at = absurd (omega (arith, some))
fresh_balanced named w (Some window) none some o at = none o ∙ sym (held_none named.streams named.objects window.width o)
