-- A record that is told and raised, and a closing record that is raised.
use Rattle.std.proofs.Common.{◌≡◌, ℕ, suc, ◌+◌, ◌-◌, ◌<◌, ◌≤◌, Bool, true, false, ◌==◌, cond, List, [], ◌∷◌, ◌++◌, length, take, drop, get_or, inl, inr, ◌⊎◌, Some, refl, sym, ap, ap₂, ◌∙◌, arith, append-nil}
use Rattle.std.specs.Prelude.{ℤ, pos, ◌+ℤ◌, slice_get}
use Rattle.std.proofs.lemmas.Bool.{cases_eq}
use Rattle.std.proofs.lemmas.Int.{ints}
use Rattle.std.proofs.lemmas.List.{get_or-set_same, get_or-set_other, length-take-le}
use Rattle.std.proofs.lemmas.Option.{slice_get-get_or}
use Rattle.std.proofs.Math.Seq.{get_or-append_seam}
use Rattle.tk_base.specs.declared.ids.Feeder.{Feeder}
use Rattle.tk_input.specs.Changes.{closing, grown_by}
use Rattle.tk_trail.specs.Growing.{grown, grown_parts}
use Rattle.tk_trail.specs.Legal.{HasNext, IsLegal, part_length, place_of}
use Rattle.tk_trail.specs.Readings.{places_at, value_of_object}
use Rattle.tk_trail.specs.Setup.{IsSetup, MonitorSetup}
use Rattle.tk_trail.specs.declared.entry.Entry.{Entry}
use Rattle.tk_trail.specs.declared.entry.Entry.TheVariants.{Raised}
use Rattle.tk_trail.proofs.AlikeLemmas.{alike_fronts, object_alike, places_alike}
use Rattle.tk_trail.proofs.GrowingLemmas.{get_or-grown_other, get_or-grown_same, grown_legal, grown_next, grown_reaches, last_stays, length-grown_by, length-grown_parts}
use Rattle.tk_trail.proofs.LegalLemmas.{legal_raised}
use Rattle.tk_trail.proofs.LevelsLemmas.{value-raised}
use Rattle.tk_trail.proofs.PlacesLemmas.{length-places_at, places_at-raised}
use Rattle.tk_compact.specs.Room.{IsClosedAt, IsOpenAt, IsWaiting, share_in}

-- the record stands where the closing record stood
slice-grown : (c : ℕ × ℤ) (part : List (ℕ × ℤ)) (p : ℕ) → p + 1 ≡ length part → slice_get (grown_by c part) p ≡ Some c
slice-grown c part p last =
    let n = length part - 1 in
    let is : p ≡ n = omega (arith, last) in
    let long : length (take n part) ≡ n = length-take-le n part (omega arith) in
    let there : p < length (grown_by c part) = omega (arith, last, length-grown_by c part (omega (arith, last))) in
    slice_get-get_or (grown_by c part) p c there
    ∙ ap Some (ap (λ k. get_or (grown_by c part) k c) (is ∙ sym long) ∙ get_or-append_seam (take n part) c (drop n part) c)

-- what may be raised of a stream that waits is its closing record
open_one : (setup : MonitorSetup) (trail : List Entry) (g : ℕ) → IsWaiting setup trail → HasNext setup trail g → IsOpenAt setup trail g
open_one setup trail g waits next =
    elim (waits g next.from_one next.one_of) [ inl opened ↦ opened | inr closed ↦ absurd (omega (arith, closed, next.not_ended)) ]

-- a stream of which neither part nor place changes waits as before
aside : (setup new : MonitorSetup) (trail longer : List Entry) (k : ℕ) → place_of new longer k ≡ place_of setup trail k → get_or new.parts (k - 1) [] ≡ get_or setup.parts (k - 1) [] → IsOpenAt setup trail k ⊎ IsClosedAt setup trail k → IsOpenAt new longer k ⊎ IsClosedAt new longer k
aside setup new trail longer k place part waits =
    let long : part_length new k ≡ part_length setup k = ap (λ (p : List (ℕ × ℤ)). length p) part in
    elim waits [
      | inl opened ↦ inl (record {
        one_left = omega (arith, place, long, opened.one_left);
        closes = ap₂ (λ (p : List (ℕ × ℤ)) (i : ℕ). slice_get p i) part place ∙ opened.closes;
      })
      | inr closed ↦ inr (place ∙ closed ∙ sym long)
    ]

-- a raise moves the place of its own feeder
place-own : (setup : MonitorSetup) (trail : List Entry) (feeder : Feeder) → 1 ≤ feeder.0 → feeder.0 ≤ length setup.from → place_of setup (trail ++ Raised feeder ∷ []) feeder.0 ≡ suc (place_of setup trail feeder.0)
place-own setup trail feeder low high =
    ap (λ (ps : List ℕ). get_or ps (feeder.0 - 1) 0) (places_at-raised setup trail feeder low)
    ∙ get_or-set_same (places_at setup trail) (feeder.0 - 1) (suc (place_of setup trail feeder.0)) 0 (omega (arith, low, high, length-places_at setup trail))

place-other : (setup : MonitorSetup) (trail : List Entry) (feeder : Feeder) (k : ℕ) → 1 ≤ feeder.0 → (k - 1 ≡ feeder.0 - 1 → ⊥) → place_of setup (trail ++ Raised feeder ∷ []) k ≡ place_of setup trail k
place-other setup trail feeder k low apart =
    ap (λ (ps : List ℕ). get_or ps (k - 1) 0) (places_at-raised setup trail feeder low)
    ∙ get_or-set_other (places_at setup trail) (feeder.0 - 1) (k - 1) (suc (place_of setup trail feeder.0)) 0 apart

-- the values are the same over the grown setup
value_there : (setup : MonitorSetup) (trail : List Entry) (g : ℕ) (c : ℕ × ℤ) → IsSetup setup → IsLegal setup trail → HasNext setup trail g → (o : ℕ) → value_of_object setup trail o ≡ value_of_object (grown setup g c) trail o
value_there setup trail g c is legal next o = object_alike setup (grown_parts setup.parts g c) trail (alike_fronts setup (grown_parts setup.parts g c) trail (grown_reaches setup trail g c is.from next legal) trail [] (append-nil trail)) o

-- a record that is told and raised counts once, and its stream is open as before
pub told_once : (setup : MonitorSetup) (trail : List Entry) (feeder : Feeder) (c : ℕ × ℤ) → IsSetup setup → IsLegal setup trail → IsWaiting setup trail → HasNext setup trail feeder.0 → IsLegal (grown setup feeder.0 c) (trail ++ Raised feeder ∷ []) × (IsWaiting (grown setup feeder.0 c) (trail ++ Raised feeder ∷ []) × (HasNext (grown setup feeder.0 c) (trail ++ Raised feeder ∷ []) feeder.0 × ((o : ℕ) → value_of_object (grown setup feeder.0 c) (trail ++ Raised feeder ∷ []) o ≡ value_of_object setup trail o +ℤ share_in o c)))
told_once setup trail feeder c is legal waits next =
    let g = feeder.0 in
    let new = grown setup g c in
    let longer = trail ++ Raised feeder ∷ [] in
    let within : g - 1 < length setup.parts = omega (arith, next.from_one, next.one_of) in
    let part = get_or setup.parts (g - 1) [] in
    let opened = open_one setup trail g waits next in
    let last : place_of setup trail g + 1 ≡ length part = opened.one_left in
    let some : 0 < length part = omega (arith, last) in
    let shape : length new.from ≡ length new.parts = is.from.shape ∙ sym (length-grown_parts setup.parts g c) in
    let goes = grown_next setup trail g c next in
    let same : places_at setup trail ≡ places_at new trail = places_alike setup (grown_parts setup.parts g c) trail in
    let own = get_or-grown_same setup.parts g c within in
    let size : part_length new g ≡ length part + 1 = ap (λ (p : List (ℕ × ℤ)). length p) own ∙ length-grown_by c part some in
    let up : place_of new longer g ≡ suc (place_of new trail g) = place-own new trail feeder next.from_one (omega (arith, next.one_of, is.from.shape)) in
    let here : place_of setup trail g ≡ place_of new trail g = ap (λ (ps : List ℕ). get_or ps (g - 1) 0) same in
    let got : slice_get (get_or new.parts (g - 1) []) (place_of new trail g) ≡ Some c =
    ap (λ (p : List (ℕ × ℤ)). slice_get p (place_of new trail g)) own ∙ slice-grown c part (place_of new trail g) (omega (arith, last, here)) in
    let at_end : place_of new longer g ≡ length part = omega (arith, up, here, last) in
    let before_end : length part - 1 ≡ place_of setup trail g = omega (arith, last) in
    let still_open : IsOpenAt new longer g = record {
      one_left = omega (arith, up, here, last, size);
      closes =
          ap₂ (λ (p : List (ℕ × ℤ)) (i : ℕ). slice_get p i) own at_end
          ∙ last_stays c part some
          ∙ ap (λ (i : ℕ). slice_get part i) before_end
          ∙ opened.closes;
    } in (
      legal_raised new shape trail feeder (grown_legal setup trail g c is.from next legal) goes,
      (
        λ k low high.
            elim (cases_eq (k - 1) (g - 1)) [
              | inl eq ↦ let kg : k ≡ g = omega (arith, eq, low, next.from_one) in rw kg (inl still_open)
              | inr apart ↦
                  aside setup new trail longer k
                  (place-other new trail feeder k next.from_one apart ∙ ap (λ (ps : List ℕ). get_or ps (k - 1) 0) (sym same))
                  (get_or-grown_other setup.parts g c (k - 1) apart)
                  (waits k low (omega (arith, high, length-grown_parts setup.parts g c)))
            ],
        (
          record { from_one = next.from_one; one_of = goes.one_of; not_ended = omega (arith, up, here, last, size) },
          λ o. value-raised new trail feeder c shape goes got o ∙ ap (λ (z : ℤ). z +ℤ share_in o c) (sym (value_there setup trail g c is legal next o)),
        ),
      ),
    )

nothing_added : (b : Bool) (z : ℤ) → z +ℤ cond b (pos 0) (pos 0) ≡ z
nothing_added true z = omega (arith, ints)
nothing_added false z = omega (arith, ints)

-- a closing record that is raised changes no value, and its stream is closed
pub closed_once : (setup : MonitorSetup) (trail : List Entry) (feeder : Feeder) → IsSetup setup → IsLegal setup trail → IsWaiting setup trail → HasNext setup trail feeder.0 → IsLegal setup (trail ++ Raised feeder ∷ []) × (IsWaiting setup (trail ++ Raised feeder ∷ []) × (IsClosedAt setup (trail ++ Raised feeder ∷ []) feeder.0 × ((o : ℕ) → value_of_object setup (trail ++ Raised feeder ∷ []) o ≡ value_of_object setup trail o)))
closed_once setup trail feeder is legal waits next =
    let g = feeder.0 in
    let longer = trail ++ Raised feeder ∷ [] in
    let opened = open_one setup trail g waits next in
    let up : place_of setup longer g ≡ suc (place_of setup trail g) = place-own setup trail feeder next.from_one (omega (arith, next.one_of, is.from.shape)) in
    let closed : IsClosedAt setup longer g = omega (arith, up, opened.one_left) in (
      legal_raised setup is.from.shape trail feeder legal next,
      (
        λ k low high.
            elim (cases_eq (k - 1) (g - 1)) [
              | inl eq ↦ let kg : k ≡ g = omega (arith, eq, low, next.from_one) in rw kg (inr closed)
              | inr apart ↦ aside setup setup trail longer k (place-other setup trail feeder k next.from_one apart) refl (waits k low high)
            ],
        (
          closed,
          λ o. value-raised setup trail feeder closing is.from.shape next opened.closes o ∙ nothing_added (1 == o) (value_of_object setup trail o),
        ),
      ),
    )
