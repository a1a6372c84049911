-- The totals at a cut where ticks end are those of the windows.
use Rattle.std.proofs.Common.{◌≡◌, ℕ, suc, zero, ◌≤◌, ℤ, ◌+ℤ◌, List, [], ◌∷◌, length, map, take, Option, Some, None, option_map, refl, sym, ap, subst, ◌∙◌, arith}
use Rattle.std.specs.Prelude.{◌==◌, ◌≤ℤ◌, slice_index_or}
use Rattle.std.specs.List.{zip}
use Rattle.std.proofs.lemmas.Bool.{eqb-true}
use Rattle.std.proofs.lemmas.List.{length-map}
use Rattle.std.proofs.lemmas.List.FromFn.{length-map-range_with_len}
use Rattle.std.proofs.lemmas.List.Quantifiers.{position-Some}
use Rattle.tk_base.proofs.SumLemmas.{int_sum-cons}
use Rattle.tk_input.specs.Logs.{ArePlaces, IsCut, IsValid, sum_for, total, value_of}
use Rattle.tk_window.specs.TickEnds.{all_of, ticks_at, ticks_in}
use Rattle.tk_window.specs.Validity.{AreTicksIn, AreTicksOf, IsWindowValid, expanded_ends, expanded_logs, window_total, window_value}
use Rattle.tk_window.specs.Window.{end_of, expansion, tick_ending, up_to, window_sum}
use Rattle.tk_window.proofs.WindowLemmas.{sums_to_window}

-- the first of all of some values, and the others
record Parted {A : Type 0} (first : Option A) (rest : List (Option A)) (all : List A) : Type 0 where
  head : A
  tail : List A
  here : first ≡ Some head
  later : all_of rest ≡ Some tail
  is : all ≡ head ∷ tail

parted : {A : Type 0} (first : Option A) (rest : List (Option A)) (all : List A) → all_of (first ∷ rest) ≡ Some all → Parted first rest all
parted None rest all is = absurd (cc)
parted {A} (Some x) rest all is = go (all_of rest) refl is
  where
    go : (o : Option (List A)) → all_of rest ≡ o → option_map (λ xs. x ∷ xs) o ≡ Some all → Parted (Some x) rest all
    go None same is = absurd (cc)
    go (Some xs) same is = let whole : x ∷ xs ≡ all = cc in record { head = x; tail = xs; here = refl; later = same; is = sym whole }

-- the expanded log of one feeder, at a place where a tick ends
one_sum : (width o place t : ℕ) (ticks : List (List (ℕ × ℤ))) → tick_ending (expansion width ticks).ends place ≡ Some t → sum_for o (take place (expansion width ticks).part) ≡ window_sum width ticks t o
one_sum width o place t ticks found =
    let ends = (expansion width ticks).ends in
    let (within, is, first) = position-Some (λ e. e == place) (0 ∷ ends) t 0 found in
    let many = length-map-range_with_len (λ u. length (up_to width ticks u)) 1 (length ticks) in
    let at : end_of ends t ≡ place = eqb-true (end_of ends t) place is in
    ap (λ n. sum_for o (take n (expansion width ticks).part)) (sym at) ∙ sums_to_window width ticks t o (omega (arith, within, many))

-- those of one monitor
value_at_ticks : (width o : ℕ) (row : List (List (List (ℕ × ℤ)))) (places ticks : List ℕ) → ticks_in (map (λ ts. (expansion width ts).ends) row) places ≡ Some ticks
    → value_of (map (λ ts. (expansion width ts).part) row) places o ≡ window_value width row ticks o
value_at_ticks width o [] places ticks found = refl
value_at_ticks width o (log ∷ row) [] ticks found = let none : [] ≡ ticks = cc in ap (λ (ts : List ℕ). window_value width (log ∷ row) ts o) none
value_at_ticks width o (log ∷ row) (place ∷ places) ticks found =
    let f = parted (tick_ending (expansion width log).ends place) (map (λ (p : List ℕ × ℕ). tick_ending p.0 p.1) (zip (map (λ ts. (expansion width ts).ends) row) places)) ticks found in
    let parts = map (λ (ts : List (List (ℕ × ℤ))). (expansion width ts).part) row in
    int_sum-cons (sum_for o (take place (expansion width log).part)) (map (λ (p : List (ℕ × ℤ) × ℕ). sum_for o (take p.1 p.0)) (zip parts places))
    ∙ ap (λ s. s +ℤ value_of parts places o) (one_sum width o place f.head log f.here)
    ∙ ap (λ s. window_sum width log f.head o +ℤ s) (value_at_ticks width o row places f.tail f.later)
    ∙ sym (int_sum-cons (window_sum width log f.head o) (map (λ (p : List (List (ℕ × ℤ)) × ℕ). window_sum width p.0 p.1 o) (zip row f.tail)))
    ∙ ap (λ (ts : List ℕ). window_value width (log ∷ row) ts o) (sym f.is)

-- and of all
pub total_at_ticks : (width o : ℕ) (logs : List (List (List (List (ℕ × ℤ))))) (cut ticks : List (List ℕ)) → ticks_at (expanded_ends width logs) cut ≡ Some ticks → total (expanded_logs width logs) o cut ≡ window_total width logs o ticks
total_at_ticks width o [] cut ticks found = refl
total_at_ticks width o (row ∷ logs) [] ticks found = let none : [] ≡ ticks = cc in ap (λ (ts : List (List ℕ)). window_total width (row ∷ logs) o ts) none
total_at_ticks width o (row ∷ logs) (places ∷ cut) ticks found =
    let f = parted (ticks_in (map (λ ts. (expansion width ts).ends) row) places) (map (λ (p : List (List ℕ) × List ℕ). ticks_in p.0 p.1) (zip (expanded_ends width logs) cut)) ticks found in
    let parts = map (λ (ts : List (List (ℕ × ℤ))). (expansion width ts).part) row in
    int_sum-cons (value_of parts places o) (map (λ (p : List (List (ℕ × ℤ)) × List ℕ). value_of p.0 p.1 o) (zip (expanded_logs width logs) cut))
    ∙ ap (λ s. s +ℤ total (expanded_logs width logs) o cut) (value_at_ticks width o row places f.head f.here)
    ∙ ap (λ s. window_value width row f.head o +ℤ s) (total_at_ticks width o logs cut f.tail f.later)
    ∙ sym (int_sum-cons (window_value width row f.head o) (map (λ (p : List (List (List (ℕ × ℤ))) × List ℕ). window_value width p.0 p.1 o) (zip logs f.tail)))
    ∙ ap (λ (ts : List (List ℕ)). window_total width (row ∷ logs) o ts) (sym f.is)

-- ---- the ticks themselves

-- a tick that ends at a place is one of the log, or stands before it
one_tick : (width place t : ℕ) (log : List (List (ℕ × ℤ))) → tick_ending (expansion width log).ends place ≡ Some t → t ≤ length log
one_tick width place t log found =
    let (within, is, first) = position-Some (λ e. e == place) (0 ∷ (expansion width log).ends) t 0 found in
    omega (arith, within, length-map-range_with_len (λ u. length (up_to width log u)) 1 (length log))

-- none of no log, and one more of one log more
no_ticks : AreTicksIn [] []
no_ticks = record { shape = refl; within = λ f. omega arith }

tick_more : (log : List (List (ℕ × ℤ))) (row : List (List (List (ℕ × ℤ)))) (t : ℕ) (ticks : List ℕ) → t ≤ length log → AreTicksIn row ticks → AreTicksIn (log ∷ row) (t ∷ ticks)
tick_more log row t ticks one are = record { shape = omega (arith, are.shape); within = at }
  where
    at : (f : ℕ) → slice_index_or (t ∷ ticks) f 0 ≤ length (slice_index_or (log ∷ row) f [])
    at zero = one
    at (suc f) = are.within f

-- those of one monitor, at one place a log
ticks_are_in : (width : ℕ) (row : List (List (List (ℕ × ℤ)))) (places ticks : List ℕ) → ticks_in (map (λ ts. (expansion width ts).ends) row) places ≡ Some ticks
    → length places ≡ length row → AreTicksIn row ticks
ticks_are_in width [] [] ticks found same = let none : [] ≡ ticks = cc in subst (AreTicksIn []) none no_ticks
ticks_are_in width [] (place ∷ places) ticks found same = absurd (omega (arith, same))
ticks_are_in width (log ∷ row) [] ticks found same = absurd (omega (arith, same))
ticks_are_in width (log ∷ row) (place ∷ places) ticks found same =
    let f = parted (tick_ending (expansion width log).ends place) (map (λ (p : List ℕ × ℕ). tick_ending p.0 p.1) (zip (map (λ ts. (expansion width ts).ends) row) places)) ticks found in
    subst (AreTicksIn (log ∷ row)) (sym f.is) (tick_more log row f.head f.tail (one_tick width place f.head log f.here) (ticks_are_in width row places f.tail f.later (omega (arith, same))))

-- the same of rows
no_rows : AreTicksOf [] []
no_rows = record { shape = refl; each = λ j. no_ticks }

row_more : (row : List (List (List (ℕ × ℤ)))) (logs : List (List (List (List (ℕ × ℤ))))) (first : List ℕ) (ticks : List (List ℕ)) → AreTicksIn row first → AreTicksOf logs ticks → AreTicksOf (row ∷ logs) (first ∷ ticks)
row_more row logs first ticks one are = record { shape = omega (arith, are.shape); each = at }
  where
    at : (j : ℕ) → AreTicksIn (slice_index_or (row ∷ logs) j []) (slice_index_or (first ∷ ticks) j [])
    at zero = one
    at (suc j) = are.each j

-- and those of all, at a cut
ticks_are_of : (width : ℕ) (logs : List (List (List (List (ℕ × ℤ))))) (cut ticks : List (List ℕ)) → ticks_at (expanded_ends width logs) cut ≡ Some ticks → IsCut (expanded_logs width logs) cut → AreTicksOf logs ticks
ticks_are_of width [] [] ticks found is_cut = let none : [] ≡ ticks = cc in subst (AreTicksOf []) none no_rows
ticks_are_of width [] (places ∷ cut) ticks found is_cut = absurd (omega (arith, is_cut.shape))
ticks_are_of width (row ∷ logs) [] ticks found is_cut = absurd (omega (arith, is_cut.shape))
ticks_are_of width (row ∷ logs) (places ∷ cut) ticks found is_cut =
    let f = parted (ticks_in (map (λ ts. (expansion width ts).ends) row) places) (map (λ (p : List (List ℕ) × List ℕ). ticks_in p.0 p.1) (zip (expanded_ends width logs) cut)) ticks found in
    let here : ArePlaces (map (λ ts. (expansion width ts).part) row) places = is_cut.each 0 in
    let many : length places ≡ length row = omega (arith, here.shape, length-map row (λ (ts : List (List (ℕ × ℤ))). (expansion width ts).part)) in
    let later : IsCut (expanded_logs width logs) cut = record { shape = omega (arith, is_cut.shape); each = λ j. is_cut.each (suc j) } in
    subst (AreTicksOf (row ∷ logs)) (sym f.is) (row_more row logs f.head f.tail (ticks_are_in width row places f.head f.here many) (ticks_are_of width logs cut f.tail f.later later))

-- so a set that is valid at the cut is valid for the windows
pub valid_at_ticks : (width n k : ℕ) (epsilon : ℤ) (logs : List (List (List (List (ℕ × ℤ))))) (cut ticks : List (List ℕ)) (set : List ℕ) → ticks_at (expanded_ends width logs) cut ≡ Some ticks
    → IsValid (expanded_logs width logs) n k epsilon cut set → IsWindowValid width logs n k epsilon ticks set
valid_at_ticks width n k epsilon logs cut ticks set found valid = record {
  are_ticks = ticks_are_of width logs cut ticks found valid.is_cut;
  size = valid.size;
  ascends = valid.ascends;
  within = valid.within;
  greatest = λ t s is_in some few out.
      subst (λ x. window_total width logs s ticks ≤ℤ (x +ℤ epsilon)) (total_at_ticks width t logs cut ticks found)
      (subst (λ x. x ≤ℤ (total (expanded_logs width logs) t cut +ℤ epsilon)) (total_at_ticks width s logs cut ticks found) (valid.greatest t s is_in some few out));
}
