-- Places of a trail, and what one more entry does to them.
use Rattle.std.proofs.Common.{◌≡◌, ℕ, suc, ◌≤◌, ◌+◌, ◌-◌, ◌==◌, cond, List, [], ◌∷◌, ◌++◌, length, map, set, Option, Some, None, refl, sym, ap, ◌∙◌, arith, eq-eqb, ne_eqb}
use Rattle.std.specs.List.{enumerate_from}
use Rattle.std.proofs.lemmas.List.{length-map}
use Rattle.std.proofs.lemmas.List.FromFn.{length-enumerate_from}
use Rattle.std.proofs.lemmas.List.Sums.{sum_by_push}
use Rattle.tk_frames.specs.declared.frame.Frame.{Frame}
use Rattle.tk_base.specs.declared.ids.Feeder.{Feeder}
use Rattle.tk_trail.specs.Setup.{MonitorSetup}
use Rattle.tk_trail.specs.Readings.{is_raise_of, raised_of, places_at}
use Rattle.tk_trail.specs.Legal.{place_of, with_answer}
use Rattle.tk_trail.specs.declared.entry.Entry.{Entry}
use Rattle.tk_trail.specs.declared.entry.Entry.TheVariants.{Raised, Took, Sent}
use Rattle.tk_trail.proofs.MappedLemmas.{placed_same, placed_one}

-- counts of raises
pub raised_of-push : (g : ℕ) (trail : List Entry) (e : Entry) → raised_of g (trail ++ e ∷ []) ≡ raised_of g trail + cond (is_raise_of g e) 1 0
raised_of-push g trail e = sum_by_push (λ x. cond (is_raise_of g x) 1 0) trail e

-- no feeder of this number was meant
other_raise : (o g : ℕ) → (g ≡ o → ⊥) → ◌≡◌ {A = ℕ} (cond (o == g) 1 0) 0
other_raise o g apart = ap (λ b. cond b 1 0) (ne_eqb o g (λ same. apart (sym same)))

same_raise : (o : ℕ) → ◌≡◌ {A = ℕ} (cond (o == o) 1 0) 1
same_raise o = ap (λ b. cond b 1 0) (eq-eqb o o refl)

pub places_at-took : (setup : MonitorSetup) (trail : List Entry) (frame : Frame) → places_at setup (trail ++ Took frame ∷ []) ≡ places_at setup trail
unfolding places_at
places_at-took setup trail frame = placed_same (λ g. raised_of g trail) (λ g. raised_of g (trail ++ Took frame ∷ [])) 1 setup.from (λ g low. omega (arith, raised_of-push g trail (Took frame)))

pub places_at-sent : (setup : MonitorSetup) (trail : List Entry) (frame : Frame) → places_at setup (trail ++ Sent frame ∷ []) ≡ places_at setup trail
unfolding places_at
places_at-sent setup trail frame = placed_same (λ g. raised_of g trail) (λ g. raised_of g (trail ++ Sent frame ∷ [])) 1 setup.from (λ g low. omega (arith, raised_of-push g trail (Sent frame)))

-- nor does an answer
pub answered_places : (setup : MonitorSetup) (trail : List Entry) (answer : Option Frame) → places_at setup (with_answer trail answer) ≡ places_at setup trail
answered_places setup trail None = refl
answered_places setup trail (Some frame) = places_at-sent setup trail frame

-- a raise moves the place of its feeder by one
pub places_at-raised : (setup : MonitorSetup) (trail : List Entry) (feeder : Feeder) → 1 ≤ feeder.0 → places_at setup (trail ++ Raised feeder ∷ []) ≡ set (places_at setup trail) (feeder.0 - 1) (suc (place_of setup trail feeder.0))
unfolding places_at
places_at-raised setup trail feeder low =
    placed_one (λ g. raised_of g trail) (λ g. raised_of g (trail ++ Raised feeder ∷ [])) 1 setup.from feeder.0 low
    (λ g apart. omega (arith, raised_of-push g trail (Raised feeder), other_raise feeder.0 g apart))
    (omega (arith, raised_of-push feeder.0 trail (Raised feeder), same_raise feeder.0))

-- one place for each start
pub length-places_at : (setup : MonitorSetup) (trail : List Entry) → length (places_at setup trail) ≡ length setup.from
unfolding places_at
length-places_at setup trail = length-map (enumerate_from 1 setup.from) (λ (p : ℕ × ℕ). p.1 + raised_of p.0 trail) ∙ length-enumerate_from 1 setup.from

-- before the first entry the places are the starts
started : (a : ℕ) (xs : List ℕ) → map (λ (p : ℕ × ℕ). p.1 + 0) (enumerate_from a xs) ≡ xs
started a [] = refl
started a (x ∷ xs) =
    let first : x + 0 ≡ x = omega arith in
    let rest : map (λ (p : ℕ × ℕ). p.1 + 0) (enumerate_from (a + 1) xs) ≡ xs = started (a + 1) xs in
    cc

pub places_at-start : (setup : MonitorSetup) → places_at setup [] ≡ setup.from
unfolding places_at
places_at-start setup = started 1 setup.from
