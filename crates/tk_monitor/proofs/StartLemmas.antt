-- From where a monitor starts: values at places, and one more change of a part.
use Rattle.std.proofs.Common.{◌≡◌, ℕ, suc, zero, ◌<◌, ◌≤◌, ◌+◌, ◌-◌, ◌^◌, List, [], ◌∷◌, length, map, take, get_or, set, Some, refl, sym, ap, ◌∙◌, arith}
use Rattle.std.specs.Prelude.{ℤ, pos, ◌+ℤ◌, unsigned_abs, replicate}
use Rattle.std.specs.List.{range_with_len, zip}
use Rattle.std.proofs.lemmas.Int.{ints}
use Rattle.std.proofs.lemmas.List.FromFn.{length-map-range_with_len, get_or-map-range_with_len}
use Rattle.tk_base.specs.Objects.{objects}
use Rattle.tk_base.proofs.SumLemmas.{int_sum-cons}
use Rattle.tk_input.specs.Logs.{value_of, AreParts, sum_for}
use Rattle.tk_border.specs.Levels.{level_at}
use Rattle.tk_trail.specs.Setup.{MonitorSetup}
use Rattle.tk_trail.specs.Readings.{value_of_object, values_of, level_of, levels_of}
use Rattle.tk_trail.specs.Frames.{owed_at}
use Rattle.tk_trail.specs.Legal.{IsLegal}
use Rattle.tk_trail.proofs.LevelsLemmas.{share_none, share_own}
use Rattle.tk_trail.proofs.MappedLemmas.{mapped_one, mapped_same}
use Rattle.tk_trail.proofs.PlacesLemmas.{places_at-start}
use Rattle.tk_input.proofs.SumLemmas.{value_of-size}
use Rattle.tk_trail.proofs.ValuesLemmas.{value_of-set}
use Rattle.tk_monitor.specs.Board.{BoardView, shifted}
use Rattle.tk_monitor.specs.Kept.{values_on, next_in, standing_of}
use Rattle.tk_monitor.specs.Start.{StandsAt}
use Rattle.tk_monitor.proofs.KeptLemmas.{change_object}

pub length-values_on : (n : ℕ) (parts : List (List (ℕ × ℤ))) (next : List ℕ) → length (values_on n parts next) ≡ n
unfolding values_on objects
length-values_on n parts next = length-map-range_with_len (value_of parts next) 1 n

level_at-values_on : (n : ℕ) (parts : List (List (ℕ × ℤ))) (next : List ℕ) (o : ℕ) → 1 ≤ o → o ≤ n → level_at (values_on n parts next) o ≡ value_of parts next o
unfolding values_on objects
level_at-values_on n parts next o low high = get_or-map-range_with_len (value_of parts next) 1 n (o - 1) o (pos 0) (omega arith) (omega arith)

pub stands_size : (n : ℕ) (parts : List (List (ℕ × ℤ))) (next : List ℕ) (s : BoardView) → StandsAt n parts next s → length s.levels ≡ n
stands_size n parts next s at = ap (λ (zs : List ℤ). length zs) at.levels ∙ length-values_on n parts next

moved_value : (n : ℕ) (parts : List (List (ℕ × ℤ))) (next : List ℕ) (i : ℕ) (c : ℕ × ℤ) → AreParts n parts → length next ≡ length parts → i < length parts → next_in parts next i ≡ Some c → value_of parts (set next i (suc (get_or next i 0))) c.0 ≡ level_at (values_on n parts next) c.0 +ℤ c.1
moved_value n parts next i c are shape within got =
    let object = change_object n parts next i c are within got in
    omega (
      arith,
      ints,
      value_of-set parts next i c.0 c within (omega (arith, within, shape)) got,
      level_at-values_on n parts next c.0 object.0 object.1,
      share_own c,
    )

values_step : (n : ℕ) (parts : List (List (ℕ × ℤ))) (next : List ℕ) (i : ℕ) (c : ℕ × ℤ) → AreParts n parts → length next ≡ length parts → i < length parts → next_in parts next i ≡ Some c → values_on n parts (set next i (suc (get_or next i 0))) ≡ set (values_on n parts next) (c.0 - 1) (value_of parts (set next i (suc (get_or next i 0))) c.0)
unfolding values_on objects
values_step n parts next i c are shape within got =
    let object = change_object n parts next i c are within got in
    mapped_one (value_of parts next) (value_of parts (set next i (suc (get_or next i 0)))) 1 n c.0 object.0 (omega (arith, object.1))
    (λ q apart. omega (arith, ints, value_of-set parts next i q c within (omega (arith, within, shape)) got, share_none q c apart))

-- one more change of part i
pub stands_step : (n : ℕ) (parts : List (List (ℕ × ℤ))) (next : List ℕ) (i : ℕ) (c : ℕ × ℤ) (s : BoardView) → AreParts n parts → length next ≡ length parts → i < length parts → next_in parts next i ≡ Some c → StandsAt n parts next s → StandsAt n parts (set next i (suc (get_or next i 0))) (shifted s c)
stands_step n parts next i c s are shape within got at =
    let moved : set (values_on n parts next) (c.0 - 1) (level_at (values_on n parts next) c.0 +ℤ c.1) ≡ values_on n parts (set next i (suc (get_or next i 0))) =
    sym (values_step n parts next i c are shape within got ∙ ap (λ (z : ℤ). set (values_on n parts next) (c.0 - 1) z) (moved_value n parts next i c are shape within got)) in
    record {
      values = ap (λ (zs : List ℤ). set zs (c.0 - 1) (level_at zs c.0 +ℤ c.1)) at.values ∙ moved;
      levels = ap (λ (zs : List ℤ). set zs (c.0 - 1) (level_at zs c.0 +ℤ c.1)) at.levels ∙ moved;
      members = at.members;
    }

pub stands_small : (n : ℕ) (parts : List (List (ℕ × ℤ))) (next : List ℕ) (i : ℕ) (c : ℕ × ℤ) (s : BoardView) → AreParts n parts → length next ≡ length parts → i < length parts → next_in parts next i ≡ Some c → StandsAt n parts next s → unsigned_abs (level_at s.values c.0 +ℤ c.1) ≤ 2 ^ 100
stands_small n parts next i c s are shape within got at =
    omega (
      arith,
      ints,
      ap (λ (zs : List ℤ). level_at zs c.0) at.values,
      moved_value n parts next i c are shape within got,
      value_of-size parts (set next i (suc (get_or next i 0))) c.0,
      are.weights c.0,
    )

zero_value : (parts : List (List (ℕ × ℤ))) (m o : ℕ) → value_of parts (replicate m 0) o ≡ pos 0
zero_value [] m o = refl
zero_value (part ∷ parts) zero o = refl
zero_value (part ∷ parts) (suc m) o =
    omega (arith, ints, int_sum-cons (pos 0) (map (λ (p : List (ℕ × ℤ) × ℕ). sum_for o (take p.1 p.0)) (zip parts (replicate m 0))), zero_value parts m o)

constant : (a n : ℕ) (h : ℕ → ℤ) → ((o : ℕ) → h o ≡ pos 0) → map h (range_with_len a n) ≡ replicate n (pos 0)
constant a zero h all = refl
constant a (suc n) h all =
    let first : h a ≡ pos 0 = all a in
    let rest : map h (range_with_len (a + 1) n) ≡ replicate n (pos 0) = constant (a + 1) n h all in
    cc

pub zero_values : (n : ℕ) (parts : List (List (ℕ × ℤ))) (m : ℕ) → values_on n parts (replicate m 0) ≡ replicate n (pos 0)
unfolding values_on objects
zero_values n parts m = constant 1 n (value_of parts (replicate m 0)) (zero_value parts m)

-- a new monitor stands as the empty trail says
start_value : (setup : MonitorSetup) (o : ℕ) → value_of setup.parts setup.from o ≡ value_of_object setup [] o
unfolding value_of_object
start_value setup o = ap (λ places. value_of setup.parts places o) (sym (places_at-start setup))

pub start_values : (setup : MonitorSetup) → values_on setup.objects setup.parts setup.from ≡ values_of setup []
unfolding values_on values_of objects
start_values setup = mapped_same (value_of_object setup []) (value_of setup.parts setup.from) 1 setup.objects (λ o low high. start_value setup o)

pub start_levels : (setup : MonitorSetup) → values_on setup.objects setup.parts setup.from ≡ levels_of setup []
unfolding values_on levels_of objects level_of
start_levels setup = mapped_same (level_of setup []) (value_of setup.parts setup.from) 1 setup.objects (λ o low high. omega (arith, ints, start_value setup o))

-- a trail without entries is legal
pub start_legal : (setup : MonitorSetup) → IsLegal setup []
unfolding owed_at
start_legal setup = record { each = tt; answered = refl }

pub start_standing : (setup : MonitorSetup) (s : BoardView) → StandsAt setup.objects setup.parts setup.from s → s ≡ standing_of setup []
start_standing setup s at =
    let values : s.values ≡ values_of setup [] = at.values ∙ start_values setup in
    let levels : s.levels ≡ levels_of setup [] = at.levels ∙ start_levels setup in
    let members : s.members ≡ [] = at.members in
    let made : record { values = s.values; levels = s.levels; members = s.members } ≡ standing_of setup [] = cc in
    made
