-- A monitor whose log grows.
use Rattle.std.proofs.Common.{◌≡◌, ℕ, suc, zero, ◌+◌, ◌*◌, ◌-◌, ◌<◌, ◌≤◌, List, [], ◌∷◌, length, get_or, set, inl, inr, refl, sym, ap, ◌∙◌, subst, arith}
use Rattle.std.specs.Prelude.{ℤ, sum_by}
use Rattle.std.specs.List.{zip}
use Rattle.std.proofs.lemmas.Bool.{cases_lt}
use Rattle.std.proofs.lemmas.List.{get_or_past}
use Rattle.std.proofs.lemmas.List.Sums.{sum_by-cons}
use Rattle.tk_input.specs.Changes.{grown_by}
use Rattle.tk_trail.specs.Growing.{SaysAlike, grown, grown_parts}
use Rattle.tk_trail.proofs.GrowingLemmas.{grown_legal, grown_says, length-grown_by}
use Rattle.tk_trail.specs.Legal.{HasNext, IsLegal, part_length, place_of}
use Rattle.tk_trail.specs.Readings.{places_at}
use Rattle.tk_trail.specs.Setup.{IsSetup, MonitorSetup}
use Rattle.tk_trail.proofs.LegalLemmas.{legal_places}
use Rattle.tk_trail.proofs.PlacesLemmas.{length-places_at}
use Rattle.tk_monitor.specs.Board.{BoardView}
use Rattle.tk_monitor.specs.Kept.{IsKept, left_in, phase_of, standing_of}
use Rattle.tk_monitor.specs.Trail.{TrailView}
use Rattle.tk_monitor.specs.declared.phase.Phase.{Phase}

-- one change more is left
left_grown : (parts : List (List (ℕ × ℤ))) (next : List ℕ) (i : ℕ) (c : ℕ × ℤ) → i < length parts → i < length next → get_or next i 0 < length (get_or parts i []) → left_in (set parts i (grown_by c (get_or parts i []))) next ≡ left_in parts next + 1
left_grown [] next i c within inside goes = absurd (omega arith)
left_grown (part ∷ parts) [] i c within inside goes = absurd (omega arith)
left_grown (part ∷ parts) (place ∷ next) zero c within inside goes =
    omega (
      arith,
      goes,
      length-grown_by c part (omega (arith, goes)),
      sum_by-cons (λ (p : List (ℕ × ℤ) × ℕ). length p.0 - p.1) (grown_by c part, place) (zip parts next),
      sum_by-cons (λ (p : List (ℕ × ℤ) × ℕ). length p.0 - p.1) (part, place) (zip parts next),
    )
left_grown (part ∷ parts) (place ∷ next) (suc i) c within inside goes =
    omega (
      arith,
      sum_by-cons (λ (p : List (ℕ × ℤ) × ℕ). length p.0 - p.1) (part, place) (zip (set parts i (grown_by c (get_or parts i []))) next),
      sum_by-cons (λ (p : List (ℕ × ℤ) × ℕ). length p.0 - p.1) (part, place) (zip parts next),
      left_grown parts next i c (omega arith) (omega arith) goes,
    )

-- the fields stay what the trail gives, with room for one raise more
pub kept_grown : (setup : MonitorSetup) (was after : TrailView) (board : BoardView) (next : List ℕ) (phase : Phase) (g : ℕ) (c : ℕ × ℤ) → IsKept setup was board next phase → HasNext setup was.entries g → IsSetup (grown setup g c) → after.entries ≡ was.entries → after.raises ≡ was.raises + 1 → IsKept (grown setup g c) after board next phase
unfolding grown_parts
kept_grown setup was after board next phase g c kept goes within entries raises =
    let trail = was.entries in
    let says = (grown_says setup trail g c kept.within.from goes kept.legal).0 in
    let stands : standing_of setup trail ≡ standing_of (grown setup g c) trail = (let v = says.values in let l = says.levels in cc) in
    let here : get_or next (g - 1) 0 ≡ place_of setup trail g = ap (λ (ps : List ℕ). get_or ps (g - 1) 0) kept.places in
    let many : length next ≡ length setup.parts = ap (λ (ps : List ℕ). length ps) kept.places ∙ length-places_at setup trail ∙ kept.within.from.shape in
    record {
      within = within;
      legal = subst (IsLegal (grown setup g c)) (sym entries) (grown_legal setup trail g c kept.within.from goes kept.legal);
      places = kept.places ∙ says.places ∙ ap (places_at (grown setup g c)) (sym entries);
      standing = kept.standing ∙ stands ∙ ap (standing_of (grown setup g c)) (sym entries);
      phase_is = kept.phase_is ∙ ap phase_of (sym entries);
      room = omega (
        arith,
        raises,
        kept.room,
        left_grown setup.parts next (g - 1) c (omega (arith, goes.from_one, goes.one_of)) (omega (arith, goes.from_one, goes.one_of, many)) (omega (arith, here, goes.not_ended)),
      );
    }

-- few raises are left
few_left : (parts : List (List (ℕ × ℤ))) (next : List ℕ) → ((i : ℕ) → length (get_or parts i []) ≤ 1000000) → left_in parts next ≤ 1000000 * length parts
few_left [] next each = omega arith
few_left (part ∷ parts) [] each = omega arith
few_left (part ∷ parts) (place ∷ next) each =
    let here = each 0 in
    omega (
      arith,
      sum_by-cons (λ (p : List (ℕ × ℤ) × ℕ). length p.0 - p.1) (part, place) (zip parts next),
      here,
      few_left parts next (λ i. each (suc i)),
    )

-- so a monitor has room for one raise more
pub kept_few : (setup : MonitorSetup) (was : TrailView) (board : BoardView) (next : List ℕ) (phase : Phase) → IsKept setup was board next phase → was.raises ≤ 8000000
kept_few setup was board next phase kept =
    let each : (i : ℕ) → length (get_or setup.parts i []) ≤ 1000000 =
    λ i. elim (cases_lt i (length setup.parts)) [
      | inl within ↦ kept.within.parts.lengths i [] within
      | inr past ↦ let none = ap (λ (p : List (ℕ × ℤ)). length p) (get_or_past setup.parts i [] past) in omega (arith, none)
    ] in
    omega (arith, kept.room, few_left setup.parts next each, kept.within.parts.feeders)
