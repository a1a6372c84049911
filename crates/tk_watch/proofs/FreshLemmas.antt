-- A watch that was told nothing.
use Rattle.std.proofs.Common.{◌≡◌, ◌==◌, None, Bool, true, false, cond, ℕ, suc, zero, ◌-◌, ◌<◌, ◌≤◌, List, [], ◌∷◌, length, get_or, inl, refl, sym, ap, ◌∙◌, arith}
use Rattle.std.specs.Prelude.{ℤ, pos, unsigned_abs, All, replicate, slice_get}
use Rattle.std.proofs.lemmas.List.{length-replicate}
use Rattle.std.proofs.lemmas.List.Elements.{All-cons, All-nil}
use Rattle.std.proofs.lemmas.List.Sums.{sum_by-cons}
use Rattle.tk_base.specs.Settings.{IsWithinLimits, Setup}
use Rattle.tk_frames.specs.Spelling.{IsVersion}
use Rattle.tk_input.specs.Changes.{closing}
use Rattle.tk_input.specs.Logs.{ArePlaces, AreParts, IsObject, weight_for, weight_of}
use Rattle.tk_trail.specs.Legal.{part_length, place_of}
use Rattle.tk_trail.specs.Slack.{sizes}
use Rattle.tk_trail.proofs.PlacesLemmas.{places_at-start}
use Rattle.tk_trail.proofs.ValuesLemmas.{weight_for-cons}
use Rattle.tk_monitor.specs.Monitored.{MonitorView, made}
use Rattle.tk_monitor.proofs.StartLemmas.{start_legal}
use Rattle.tk_compact.specs.Room.{sizes_of}
use Rattle.tk_watch.specs.Standing.{StandingView}
use Rattle.tk_watch.specs.Watch.{IsWatch, WatchView, fresh, unfed}

-- so many parts with a closing record each
abbrev unfed_parts : ℕ → List (List (ℕ × ℤ))
unfed_parts n = replicate n (closing ∷ [])

each_unfed : (P : List (ℕ × ℤ) → Type 0) → P (closing ∷ []) → (n : ℕ) → All P (unfed_parts n)
each_unfed P one zero = All-nil P
each_unfed P one (suc n) = All-cons P (closing ∷ []) (unfed_parts n) one (each_unfed P one n)

no_share : (b : Bool) → cond b (unsigned_abs (pos 0)) 0 ≡ 0
no_share true = refl
no_share false = refl

weight_closing : (o : ℕ) → weight_for o (closing ∷ []) ≡ 0
weight_closing o = omega (arith, weight_for-cons o closing [], no_share (1 == o))

weight_unfed : (n o : ℕ) → weight_of (unfed_parts n) o ≡ 0
weight_unfed zero o = refl
weight_unfed (suc n) o = omega (arith, sum_by-cons (weight_for o) (closing ∷ []) (unfed_parts n), weight_closing o, weight_unfed n o)

sizes_unfed : (n : ℕ) → sizes_of (unfed_parts n) ≡ 0
sizes_unfed zero = refl
sizes_unfed (suc n) = omega (arith, sum_by-cons sizes (closing ∷ []) (unfed_parts n), sizes_unfed n)

part_unfed : (n i : ℕ) → i < n → get_or (unfed_parts n) i [] ≡ closing ∷ []
part_unfed zero i within = absurd (omega (arith, within))
part_unfed (suc n) zero within = refl
part_unfed (suc n) (suc i) within = part_unfed n i (omega (arith, within))

zero_at : (n i : ℕ) → ◌≡◌ {A = ℕ} (get_or {A = ℕ} (replicate n 0) i 0) 0
zero_at zero i = refl
zero_at (suc n) zero = refl
zero_at (suc n) (suc i) = zero_at n i

pub are_unfed : (settings : Setup) (n : ℕ) → IsWithinLimits settings → 1 ≤ n → n ≤ 8 → AreParts settings.objects (unfed_parts n)
are_unfed settings n limits some few = record {
  some_feeder = omega (arith, some, length-replicate {A = List (ℕ × ℤ)} n (closing ∷ []));
  feeders = omega (arith, few, length-replicate {A = List (ℕ × ℤ)} n (closing ∷ []));
  objects = each_unfed (λ (p : List (ℕ × ℤ)). All (λ (c : ℕ × ℤ). IsObject settings.objects c.0) p)
      (All-cons (λ (c : ℕ × ℤ). IsObject settings.objects c.0) closing [] (omega arith, limits.some_object) (All-nil (λ (c : ℕ × ℤ). IsObject settings.objects c.0))) n;
  lengths = each_unfed (λ (p : List (ℕ × ℤ)). length p ≤ 1000000) (omega arith) n;
  weights = λ o. omega (arith, weight_unfed n o);
}

pub are_starts : (n : ℕ) → ArePlaces (unfed_parts n) (replicate n 0)
are_starts n = record {
  shape = length-replicate n 0 ∙ sym (length-replicate {A = List (ℕ × ℤ)} n (closing ∷ []));
  within = λ i. omega (arith, zero_at n i);
}

-- it is a watch
pub fresh_is : {W : Type 0} (settings : Setup) (number streams run version : ℕ) → IsWithinLimits settings → 0 < number → number ≤ 64 → 1 ≤ streams → streams ≤ 8 → IsVersion version → IsWatch {W = W} (fresh settings number streams run version)
fresh_is settings number streams run version limits low high some few is =
    let setup = (unfed settings number streams).setup in
    let start = places_at-start setup in
    record {
      within = record {
        some_object = limits.some_object;
        objects = limits.objects;
        parts = are_unfed settings streams limits some few;
        from = are_starts streams;
      };
      legal = start_legal setup;
      waits = λ g from_one within.
          let inside : g - 1 < streams = omega (arith, from_one, within, length-replicate {A = List (ℕ × ℤ)} streams (closing ∷ [])) in
          let part = part_unfed streams (g - 1) inside in
          let place : place_of setup [] g ≡ 0 = ap (λ (ps : List ℕ). get_or ps (g - 1) 0) start ∙ zero_at streams (g - 1) in
          let long : part_length setup g ≡ 1 = ap (λ (p : List (ℕ × ℤ)). length p) part in
          inl (record {
            one_left = omega (arith, place, long);
            closes = ap (λ (n : ℕ). slice_get (get_or setup.parts (g - 1) []) n) place ∙ ap (λ (p : List (ℕ × ℤ)). slice_get p 0) part;
          });
      weighs = record { weighed = omega (arith, sizes_unfed streams); bounded = omega arith };
      number = (low, high);
      counts = length-replicate streams 0 ∙ sym (length-replicate {A = List (ℕ × ℤ)} streams (closing ∷ []));
      version = is;
    }

-- where it stands then
pub fresh_by : {W : Type 0} (settings : Setup) (number streams run version : ℕ) (s : StandingView W) (m : MonitorView) (parts : List (List (ℕ × ℤ))) (from counts : List ℕ)
    → s ≡ record { monitor = m; port = None } → m ≡ made settings number parts from → parts ≡ unfed_parts streams → from ≡ replicate streams 0 → counts ≡ replicate streams 0
    → ◌≡◌ {A = WatchView W} (record { monitor = s.monitor; port = s.port; weight = 0; counts = counts; run = run; version = version }) (fresh settings number streams run version)
fresh_by {W} settings number streams run version s m parts from counts at is unfed_ starts zeros =
    let made_so : m ≡ unfed settings number streams = is ∙ ap (λ (ps : List (List (ℕ × ℤ))). made settings number ps from) unfed_ ∙ ap (λ (f : List ℕ). made settings number (unfed_parts streams) f) starts in
    let standing : StandingView W → List ℕ → WatchView W = λ t ns. record { monitor = t.monitor; port = t.port; weight = 0; counts = ns; run = run; version = version } in
    ap (λ (t : StandingView W). standing t counts) (at ∙ ap (λ (n : MonitorView). record { monitor = n; port = None }) made_so)
    ∙ ap (λ (ns : List ℕ). standing (record { monitor = unfed settings number streams; port = None }) ns) zeros
