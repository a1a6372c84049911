-- A monitor that begins anew is where it was: which streams are open, and its values.
use Rattle.std.proofs.Common.{◌≡◌, ℕ, ◌+◌, ◌-◌, ◌<◌, ◌≤◌, Bool, true, false, List, [], ◌∷◌, ◌++◌, length, map, take, get_or, refl, ap, ◌∙◌, arith, length-append}
use Rattle.std.specs.Prelude.{ℤ, nat_lt, ◌↔◌}
use Rattle.std.specs.List.{zip}
use Rattle.std.proofs.lemmas.Bool.{lt-ltb, ltb-true}
use Rattle.std.proofs.lemmas.Int.{ints}
use Rattle.std.proofs.Math.Seq.{take-append_seam, take-length}
use Rattle.tk_base.proofs.SumLemmas.{int_sum-cons}
use Rattle.tk_input.specs.Logs.{sum_for, value_of}
use Rattle.tk_trail.specs.Legal.{HasNext, IsLegal, part_length, place_of}
use Rattle.tk_trail.specs.Readings.{places_at, value_of_object}
use Rattle.tk_trail.specs.Setup.{IsSetup, MonitorSetup}
use Rattle.tk_trail.specs.declared.entry.Entry.{Entry}
use Rattle.tk_trail.proofs.PlacesLemmas.{places_at-start}
use Rattle.tk_compact.specs.Anew.{anew, base_of, closer, closers, open_streams}
use Rattle.tk_compact.specs.Standing.{behind, ends_of}
use Rattle.tk_compact.proofs.BaseLemmas.{base_stands, length-base_of}
use Rattle.tk_compact.proofs.BeginLemmas.{count_anew, count_closers, ends_at, part_anew}
use Rattle.tk_compact.proofs.StandingLemmas.{reached_value}

some_closer : (b : Bool) → 0 < length (closer b) → b ≡ true
some_closer true some = refl
some_closer false some = absurd (omega (arith, some))

-- a part goes on behind its base exactly where it has a closing record
record StartsAt (setup : MonitorSetup) (trail : List Entry) (g : ℕ) : Type 0 where
  place : place_of (anew setup trail (open_streams setup trail)) [] g ≡ length (get_or (base_of setup trail) (g - 1) [])
  long : part_length (anew setup trail (open_streams setup trail)) g ≡ length (get_or (base_of setup trail) (g - 1) []) + length (closer (nat_lt (place_of setup trail g) (part_length setup g)))

starts_at : (setup : MonitorSetup) (trail : List Entry) (g : ℕ) → IsSetup setup → g - 1 < length setup.parts → StartsAt setup trail g
starts_at setup trail g is within =
    let i = g - 1 in
    let new = anew setup trail (open_streams setup trail) in
    let base = base_of setup trail in
    record {
      place = ap (λ (ps : List ℕ). get_or ps i 0) (places_at-start new) ∙ ends_at base i (omega (arith, within, length-base_of setup trail is.parts.some_feeder));
      long =
          ap (λ (p : List (ℕ × ℤ)). length p) (part_anew setup trail i is within)
          ∙ length-append (get_or base i []) (closer (nat_lt (place_of setup trail g) (part_length setup g)));
    }

goes_on_anew : (setup : MonitorSetup) (trail : List Entry) (g : ℕ) → IsSetup setup → HasNext setup trail g → HasNext (anew setup trail (open_streams setup trail)) [] g
goes_on_anew setup trail g is next =
    let at = starts_at setup trail g is (omega (arith, next.from_one, next.one_of)) in
    let opened : nat_lt (place_of setup trail g) (part_length setup g) ≡ true = lt-ltb (place_of setup trail g) (part_length setup g) next.not_ended in
    let one : length (closer (nat_lt (place_of setup trail g) (part_length setup g))) ≡ 1 = ap (λ (b : Bool). length (closer b)) opened in
    record {
      from_one = next.from_one;
      one_of = omega (arith, next.one_of, count_anew setup trail is);
      not_ended = omega (arith, at.place, at.long, one);
    }

went_on_before : (setup : MonitorSetup) (trail : List Entry) (g : ℕ) → IsSetup setup → HasNext (anew setup trail (open_streams setup trail)) [] g → HasNext setup trail g
went_on_before setup trail g is next =
    let high : g ≤ length setup.parts = omega (arith, next.one_of, count_anew setup trail is) in
    let at = starts_at setup trail g is (omega (arith, next.from_one, high)) in
    let some : 0 < length (closer (nat_lt (place_of setup trail g) (part_length setup g))) = omega (arith, at.place, at.long, next.not_ended) in
    record {
      from_one = next.from_one;
      one_of = high;
      not_ended = ltb-true (place_of setup trail g) (part_length setup g) (some_closer (nat_lt (place_of setup trail g) (part_length setup g)) some);
    }

-- what stands behind a base changes nothing at its ends
value_front : (xs ys : List (List (ℕ × ℤ))) (o : ℕ) → length ys ≡ length xs → value_of (behind xs ys) (ends_of xs) o ≡ value_of xs (ends_of xs) o
value_front [] ys o same = refl
value_front (x ∷ xs) [] o same = absurd (omega (arith, same))
value_front (x ∷ xs) (y ∷ ys) o same =
    omega (
      arith,
      ints,
      int_sum-cons (sum_for o (take (length x) (x ++ y))) (map (λ (p : List (ℕ × ℤ) × ℕ). sum_for o (take p.1 p.0)) (zip (behind xs ys) (ends_of xs))),
      int_sum-cons (sum_for o (take (length x) x)) (map (λ (p : List (ℕ × ℤ) × ℕ). sum_for o (take p.1 p.0)) (zip xs (ends_of xs))),
      ap (λ (cs : List (ℕ × ℤ)). sum_for o cs) (take-append_seam x y),
      ap (λ (cs : List (ℕ × ℤ)). sum_for o cs) (take-length x),
      value_front xs ys o (omega (arith, same)),
    )

value_anew : (setup : MonitorSetup) (trail : List Entry) (o : ℕ) → IsSetup setup → IsLegal setup trail → value_of_object (anew setup trail (open_streams setup trail)) [] o ≡ value_of_object setup trail o
unfolding value_of_object
value_anew setup trail o is legal =
    let new = anew setup trail (open_streams setup trail) in
    let base = base_of setup trail in
    ap (λ (ps : List ℕ). value_of new.parts ps o) (places_at-start new)
    ∙ value_front base (closers (open_streams setup trail)) o (count_closers setup trail is)
    ∙ (base_stands setup trail is legal).sums o
    ∙ reached_value setup.parts (places_at setup trail) o

-- the streams that go on are the same then, and so are the values
pub begins_as_before : (setup : MonitorSetup) (trail : List Entry) → IsSetup setup → IsLegal setup trail → ((g : ℕ) → HasNext (anew setup trail (open_streams setup trail)) [] g ↔ HasNext setup trail g) × ((o : ℕ) → value_of_object (anew setup trail (open_streams setup trail)) [] o ≡ value_of_object setup trail o)
begins_as_before setup trail is legal =
    (λ g. (went_on_before setup trail g is, goes_on_anew setup trail g is), λ o. value_anew setup trail o is legal)
