-- What stands for the past of a monitor.
use Rattle.std.proofs.Common.{◌≡◌, ℕ, ◌≤◌, false, ◌==◌, cond, List, [], ◌∷◌, length, map, take, drop, inl, inr, refl, sym, ap, ◌∙◌, subst, arith, ne_eqb}
use Rattle.std.specs.Prelude.{ℤ, pos, All, unsigned_abs}
use Rattle.std.specs.List.{zip}
use Rattle.std.proofs.lemmas.Bool.{cases_lt}
use Rattle.std.proofs.lemmas.Int.{ints}
use Rattle.std.proofs.lemmas.List.{length-map, length-drop}
use Rattle.std.proofs.lemmas.List.Elements.{All-head, All-tail}
use Rattle.std.proofs.lemmas.List.FromFn.{length-map-range_with_len}
use Rattle.std.proofs.lemmas.List.Sums.{sum_by-cons}
use Rattle.std.proofs.Math.Seq.{take-length}
use Rattle.tk_base.specs.Objects.{objects}
use Rattle.tk_input.specs.Logs.{IsObject, sum_for, value_of, weight_for, weight_of}
use Rattle.tk_base.proofs.SumLemmas.{int_sum-cons}
use Rattle.tk_input.proofs.SumLemmas.{sum_for-size, value_of-size}
use Rattle.tk_trail.specs.Legal.{IsLegal}
use Rattle.tk_trail.specs.Readings.{places_at, value_of_object, values_of}
use Rattle.tk_trail.specs.Setup.{IsSetup, MonitorSetup}
use Rattle.tk_trail.specs.declared.entry.Entry.{Entry}
use Rattle.tk_trail.proofs.LegalLemmas.{legal_places}
use Rattle.tk_trail.proofs.LevelsLemmas.{level_at-values_of}
use Rattle.tk_trail.proofs.ValuesLemmas.{weight_for-cons}
use Rattle.tk_compact.specs.Compacted.{compacted}
use Rattle.tk_compact.specs.Standing.{StandsFor, ends_of, reached}
use Rattle.tk_compact.proofs.CompactedLemmas.{compacted_limits, compacted_sums}
use Rattle.tk_compact.proofs.StandingLemmas.{length-reached, reached_value}
use Rattle.tk_compact.specs.Anew.{base_of}

pub length-values_of : (setup : MonitorSetup) (trail : List Entry) → length (values_of setup trail) ≡ setup.objects
unfolding values_of objects
length-values_of setup trail = length-map-range_with_len (value_of_object setup trail) 1 setup.objects

-- ---- objects that nobody counts

none_in : (n o : ℕ) (part : List (ℕ × ℤ)) → All (λ (c : ℕ × ℤ). IsObject n c.0) part → (IsObject n o → ⊥) → weight_for o part ≡ 0
none_in n o [] all out = refl
none_in n o (c ∷ part) all out =
    let own : IsObject n c.0 = All-head (λ (d : ℕ × ℤ). IsObject n d.0) c part all in
    let apart : (c.0 == o) ≡ false = ne_eqb c.0 o (λ is. out (subst (IsObject n) is own)) in
    let here : cond (c.0 == o) (unsigned_abs c.1) 0 ≡ 0 = ap (λ b. cond b (unsigned_abs c.1) 0) apart in
    omega (arith, weight_for-cons o c part, here, none_in n o part (All-tail (λ (d : ℕ × ℤ). IsObject n d.0) c part all) out)

none_of : (n o : ℕ) (parts : List (List (ℕ × ℤ))) → All (λ (p : List (ℕ × ℤ)). All (λ (c : ℕ × ℤ). IsObject n c.0) p) parts → (IsObject n o → ⊥) → weight_of parts o ≡ 0
none_of n o [] all out = refl
none_of n o (p ∷ parts) all out =
    let P : List (ℕ × ℤ) → Type 0 = λ q. All (λ (c : ℕ × ℤ). IsObject n c.0) q in
    omega (arith, sum_by-cons (weight_for o) p parts, none_in n o p (All-head P p parts all) out, none_of n o parts (All-tail P p parts all) out)

-- ---- the base

value-blanks : (parts : List (List (ℕ × ℤ))) (o : ℕ) → value_of (map (λ (part : List (ℕ × ℤ)). []) parts) (ends_of (map (λ (part : List (ℕ × ℤ)). []) parts)) o ≡ pos 0
value-blanks [] o = refl
value-blanks (p ∷ parts) o =
    let rest : List (List (ℕ × ℤ)) = map (λ (part : List (ℕ × ℤ)). []) parts in
    omega (
      arith,
      ints,
      int_sum-cons (pos 0) (map (λ (q : List (ℕ × ℤ) × ℕ). sum_for o (take q.1 q.0)) (zip rest (ends_of rest))),
      value-blanks parts o,
    )

value-base : (setup : MonitorSetup) (trail : List Entry) (o : ℕ) → value_of (base_of setup trail) (ends_of (base_of setup trail)) o ≡ sum_for o (compacted (values_of setup trail))
value-base setup trail o =
    let first = compacted (values_of setup trail) in
    let rest : List (List (ℕ × ℤ)) = map (λ (part : List (ℕ × ℤ)). []) (drop 1 setup.parts) in
    omega (
      arith,
      ints,
      int_sum-cons (sum_for o (take (length first) first)) (map (λ (q : List (ℕ × ℤ) × ℕ). sum_for o (take q.1 q.0)) (zip rest (ends_of rest))),
      ap (λ (cs : List (ℕ × ℤ)). sum_for o cs) (take-length first),
      value-blanks (drop 1 setup.parts) o,
    )

-- the sum of the base's changes is the value, of whatever object
sum_is_value : (setup : MonitorSetup) (trail : List Entry) (o : ℕ) → IsSetup setup → sum_for o (compacted (values_of setup trail)) ≡ value_of setup.parts (places_at setup trail) o
unfolding value_of_object
sum_is_value setup trail o is =
    let n = setup.objects in
    let values = values_of setup trail in
    let long = length-values_of setup trail in
    let inside : 1 ≤ o → o ≤ n → sum_for o (compacted values) ≡ value_of setup.parts (places_at setup trail) o =
    λ low high. (compacted_sums values o low (omega (arith, high, long))).0 ∙ level_at-values_of setup trail o low high in
    let outside : (IsObject n o → ⊥) → sum_for o (compacted values) ≡ value_of setup.parts (places_at setup trail) o =
    λ out.
    let light : weight_for o (compacted values) ≡ 0 = (compacted_limits values).1.1 o (λ own. out (own.0, omega (arith, own.1, long))) in
    let none = none_of n o setup.parts is.parts.objects out in
    omega (arith, ints, sum_for-size o (compacted values), light, value_of-size setup.parts (places_at setup trail) o, none) in
    elim (cases_lt 0 o) [
      | inl low ↦ elim (cases_lt n o) [ inl past ↦ outside (λ own. omega (arith, past, own.1)) | inr high ↦ inside (omega (arith, low)) (omega (arith, high)) ]
      | inr none ↦ outside (λ own. omega (arith, none, own.0))
    ]

pub length-base_of : (setup : MonitorSetup) (trail : List Entry) → 1 ≤ length setup.parts → length (base_of setup trail) ≡ length setup.parts
length-base_of setup trail some =
    let none : List (ℕ × ℤ) = [] in
    omega (arith, some, length-map (drop 1 setup.parts) (λ (part : List (ℕ × ℤ)). none), length-drop 1 setup.parts)

-- the values of a monitor stand for what it reached
pub base_stands : (setup : MonitorSetup) (trail : List Entry) → IsSetup setup → IsLegal setup trail → StandsFor (base_of setup trail) (reached setup.parts (places_at setup trail))
base_stands setup trail is legal =
    let are = legal_places setup is.from trail legal.each in
    record {
      shape = length-base_of setup trail is.parts.some_feeder ∙ sym (length-reached setup.parts (places_at setup trail) are.shape);
      sums = λ o. value-base setup trail o ∙ sum_is_value setup trail o is ∙ sym (reached_value setup.parts (places_at setup trail) o);
    }
