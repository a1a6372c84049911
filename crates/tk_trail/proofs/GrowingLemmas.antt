-- A part with a change more in front of its last record.
use Rattle.std.proofs.Common.{◌≡◌, ℕ, suc, zero, ◌<◌, ◌≤◌, ◌+◌, ◌-◌, Bool, true, false, List, [], ◌∷◌, ◌++◌, length, take, drop, get_or, set, inl, inr, Some, refl, sym, ap, ◌∙◌, subst, arith, length-append, length-drop}
use Rattle.std.specs.Prelude.{ℤ, slice_get}
use Rattle.std.proofs.lemmas.Bool.{cases_eq}
use Rattle.std.proofs.lemmas.List.{take-take, take-append-le, length-take-le, length-set, get_or-append_right, get_or-drop, get_or-set_same, get_or-set_other}
use Rattle.std.proofs.lemmas.Option.{slice_get-get_or}
use Rattle.tk_input.specs.Changes.{grown_by}
use Rattle.tk_input.specs.Logs.{ArePlaces}
use Rattle.tk_trail.specs.Setup.{MonitorSetup}
use Rattle.tk_trail.specs.Readings.{at_ends, places_at}
use Rattle.tk_trail.specs.Legal.{HasNext, IsLegal, part_length, place_of}
use Rattle.tk_trail.specs.declared.entry.Entry.{Entry}
use Rattle.tk_trail.proofs.LegalLemmas.{legal_places, not_at_ends}
use Rattle.tk_trail.proofs.PlacesLemmas.{length-places_at}
use Rattle.tk_trail.specs.Growing.{ReachesAlike, SaysAlike, grown, grown_parts, with_parts}
use Rattle.tk_trail.proofs.AlikeLemmas.{legal_reached, places_alike}

-- one more
pub length-grown_by : (c : ℕ × ℤ) (part : List (ℕ × ℤ)) → 0 < length part → length (grown_by c part) ≡ length part + 1
length-grown_by c part some =
    omega (
      arith,
      length-append (take (length part - 1) part) (c ∷ drop (length part - 1) part),
      length-take-le (length part - 1) part (omega (arith, some)),
      length-drop (length part - 1) part,
    )

-- what stands in front of the last record stays
pub take-grown_by : (c : ℕ × ℤ) (part : List (ℕ × ℤ)) (p : ℕ) → p < length part → take p part ≡ take p (grown_by c part)
take-grown_by c part p below =
    let n = length part - 1 in
    sym (take-take p n part (omega (arith, below)))
    ∙ sym (take-append-le p (take n part) (c ∷ drop n part) (omega (arith, below, length-take-le n part (omega (arith, below)))))
    ∙ refl

open_of : (b : Bool) → (b ≡ true → ⊥) → b ≡ false
open_of true not = absurd (not refl)
open_of false not = refl

-- while one part goes on, not all are at their ends
pub open_not_ended : (setup : MonitorSetup) (trail : List Entry) (g : ℕ) → length setup.from ≡ length setup.parts → HasNext setup trail g → at_ends setup trail ≡ false
open_not_ended setup trail g shape next = open_of (at_ends setup trail) (not_at_ends setup trail g (length-places_at setup trail ∙ shape) next)

pub get_or-grown_same : (parts : List (List (ℕ × ℤ))) (g : ℕ) (c : ℕ × ℤ) → g - 1 < length parts → get_or (grown_parts parts g c) (g - 1) [] ≡ grown_by c (get_or parts (g - 1) [])
unfolding grown_parts
get_or-grown_same parts g c within = get_or-set_same parts (g - 1) (grown_by c (get_or parts (g - 1) [])) [] within

pub get_or-grown_other : (parts : List (List (ℕ × ℤ))) (g : ℕ) (c : ℕ × ℤ) (i : ℕ) → (i ≡ g - 1 → ⊥) → get_or (grown_parts parts g c) i [] ≡ get_or parts i []
unfolding grown_parts
get_or-grown_other parts g c i apart = get_or-set_other parts (g - 1) i (grown_by c (get_or parts (g - 1) [])) [] apart

pub length-grown_parts : (parts : List (List (ℕ × ℤ))) (g : ℕ) (c : ℕ × ℤ) → length (grown_parts parts g c) ≡ length parts
unfolding grown_parts
length-grown_parts parts g c = length-set parts (g - 1) (grown_by c (get_or parts (g - 1) []))

-- the part goes on as before
pub grown_next : (setup : MonitorSetup) (trail : List Entry) (g : ℕ) (c : ℕ × ℤ) → HasNext setup trail g → HasNext (grown setup g c) trail g
grown_next setup trail g c next =
    let within : g - 1 < length setup.parts = omega (arith, next.from_one, next.one_of) in
    let part = get_or setup.parts (g - 1) [] in
    let some : 0 < length part = omega (arith, next.not_ended) in
    let longer : length (get_or (grown_parts setup.parts g c) (g - 1) []) ≡ length part + 1 = ap (λ (p : List (ℕ × ℤ)). length p) (get_or-grown_same setup.parts g c within) ∙ length-grown_by c part some in
    let place : place_of (grown setup g c) trail g ≡ place_of setup trail g = ap (λ (ps : List ℕ). get_or ps (g - 1) 0) (sym (places_alike setup (grown_parts setup.parts g c) trail)) in
    record {
      from_one = next.from_one;
      one_of = omega (arith, next.one_of, length-grown_parts setup.parts g c);
      not_ended = omega (arith, next.not_ended, longer, place);
    }

pub grown_reaches : (setup : MonitorSetup) (trail : List Entry) (g : ℕ) (c : ℕ × ℤ) → ArePlaces setup.parts setup.from → HasNext setup trail g → IsLegal setup trail → ReachesAlike setup (grown_parts setup.parts g c) trail
grown_reaches setup trail g c start next legal =
    let within : g - 1 < length setup.parts = omega (arith, next.from_one, next.one_of) in
    let part = get_or setup.parts (g - 1) [] in
    let some : 0 < length part = omega (arith, next.not_ended) in
    let new = grown_parts setup.parts g c in
    let same = get_or-grown_same setup.parts g c within in
    let longer : length (get_or new (g - 1) []) ≡ length part + 1 = ap (λ (p : List (ℕ × ℤ)). length p) same ∙ length-grown_by c part some in
    let fits = legal_places setup start trail legal.each in
    let ps = places_at setup trail in
    record {
      here = fits;
      there = record {
        shape = fits.shape ∙ sym (length-grown_parts setup.parts g c);
        within = λ i.
            elim (cases_eq i (g - 1)) [
              | inl is ↦ rw is (omega (arith, next.not_ended, longer))
              | inr apart ↦ let e = ap (λ (p : List (ℕ × ℤ)). length p) (get_or-grown_other setup.parts g c i apart) in let w = fits.within i in omega (arith, e, w)
            ];
      };
      fronts = λ i.
          elim (cases_eq i (g - 1)) [
            | inl is ↦ rw is (take-grown_by c part (get_or ps (g - 1) 0) next.not_ended ∙ ap (λ (p : List (ℕ × ℤ)). take (get_or ps (g - 1) 0) p) (sym same))
            | inr apart ↦ ap (λ (p : List (ℕ × ℤ)). take (get_or ps i 0) p) (sym (get_or-grown_other setup.parts g c i apart))
          ];
      open_here = open_not_ended setup trail g start.shape next;
      open_there = open_not_ended (grown setup g c) trail g (start.shape ∙ sym (length-grown_parts setup.parts g c)) (grown_next setup trail g c next);
    }

pub grown_legal : (setup : MonitorSetup) (trail : List Entry) (g : ℕ) (c : ℕ × ℤ) → ArePlaces setup.parts setup.from → HasNext setup trail g → IsLegal setup trail → IsLegal (grown setup g c) trail
grown_legal setup trail g c start next legal = (legal_reached setup (grown_parts setup.parts g c) trail (grown_reaches setup trail g c start next legal) legal).0

pub grown_says : (setup : MonitorSetup) (trail : List Entry) (g : ℕ) (c : ℕ × ℤ) → ArePlaces setup.parts setup.from → HasNext setup trail g → IsLegal setup trail → SaysAlike setup (grown setup g c) trail × HasNext (grown setup g c) trail g
grown_says setup trail g c start next legal =
    ((legal_reached setup (grown_parts setup.parts g c) trail (grown_reaches setup trail g c start next legal) legal).1, grown_next setup trail g c next)

pub last_stays : (c : ℕ × ℤ) (part : List (ℕ × ℤ)) → 0 < length part → slice_get (grown_by c part) (length part) ≡ slice_get part (length part - 1)
last_stays c part some =
    let n = length part - 1 in
    let long : length (take n part) ≡ n = length-take-le n part (omega (arith, some)) in
    let right = get_or-append_right (take n part) (c ∷ drop n part) n (n + 1) c long (omega arith) in
    let one : (n + 1) - n ≡ 1 = omega arith in
    let at : get_or (grown_by c part) (length part) c ≡ get_or part n c =
    ap (λ k. get_or (grown_by c part) k c) (let e : length part ≡ n + 1 = omega (arith, some) in e)
    ∙ right
    ∙ ap (λ k. get_or (c ∷ drop n part) k c) one
    ∙ get_or-drop n part 0 c
    ∙ ap (λ k. get_or part k c) (let e : n + 0 ≡ n = omega arith in e) in
    slice_get-get_or (grown_by c part) (length part) c (omega (arith, length-grown_by c part some))
    ∙ ap Some at
    ∙ sym (slice_get-get_or part n c (omega (arith, some)))
