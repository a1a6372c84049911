-- A stand-in to which nothing was given.
use Rattle.std.proofs.Common.{◌≡◌, ◌==◌, ℕ, suc, zero, ◌≤◌, List, [], ◌∷◌, length, get_or, refl, arith}
use Rattle.std.specs.Prelude.{ℤ, pos, unsigned_abs, All}
use Rattle.std.proofs.lemmas.Bool.{cond_both}
use Rattle.std.proofs.lemmas.List.Elements.{All-cons, All-nil}
use Rattle.std.proofs.lemmas.List.Sums.{sum_by-cons}
use Rattle.tk_base.specs.Settings.{IsWithinLimits, Setup}
use Rattle.tk_input.specs.Changes.{closing}
use Rattle.tk_input.specs.Logs.{ArePlaces, AreParts, IsObject, weight_for, weight_of}
use Rattle.tk_trail.specs.Setup.{IsSetup}
use Rattle.tk_trail.proofs.ValuesLemmas.{weight_for-cons}
use Rattle.tk_monitor.specs.Monitored.{made}

-- one part with a closing record
abbrev pub unfed_parts : List (List (ℕ × ℤ))
unfed_parts = (closing ∷ []) ∷ []

weight_unfed : (o : ℕ) → weight_of unfed_parts o ≡ 0
weight_unfed o =
    let none = cond_both (1 == o) (unsigned_abs (pos 0)) 0 (λ n. n ≡ 0) (λ here. refl) (λ there. refl) in
    omega (arith, sum_by-cons (weight_for o) (closing ∷ []) [], weight_for-cons o closing [], none)

zero_at : (i : ℕ) → ◌≡◌ {A = ℕ} (get_or {A = ℕ} (0 ∷ []) i 0) 0
zero_at zero = refl
zero_at (suc i) = refl

one_unfed : (P : List (ℕ × ℤ) → Type 0) → P (closing ∷ []) → All P unfed_parts
one_unfed P one = All-cons P (closing ∷ []) [] one (All-nil P)

pub are_unfed : (settings : Setup) → IsWithinLimits settings → AreParts settings.objects unfed_parts
are_unfed settings limits = record {
  some_feeder = omega arith;
  feeders = omega arith;
  objects = one_unfed (λ (p : List (ℕ × ℤ)). All (λ (c : ℕ × ℤ). IsObject settings.objects c.0) p)
      (All-cons (λ (c : ℕ × ℤ). IsObject settings.objects c.0) closing [] (omega arith, limits.some_object) (All-nil (λ (c : ℕ × ℤ). IsObject settings.objects c.0)));
  lengths = one_unfed (λ (p : List (ℕ × ℤ)). length p ≤ 1000000) (omega arith);
  weights = λ o. omega (arith, weight_unfed o);
}

pub are_starts : ArePlaces unfed_parts (0 ∷ [])
are_starts = record { shape = refl; within = λ i. omega (arith, zero_at i) }

pub unfed_setup : (settings : Setup) (mon : ℕ) → IsWithinLimits settings → IsSetup (made settings mon unfed_parts (0 ∷ [])).setup
unfed_setup settings mon limits = record { some_object = limits.some_object; objects = limits.objects; parts = are_unfed settings limits; from = are_starts }
