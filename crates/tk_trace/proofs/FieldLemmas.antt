-- The readers of single fields are exact.
use Rattle.std.proofs.Common.{◌≡◌, ℕ, ◌<◌, ◌≤◌, ◌^◌, ℤ, pos, negsuc, unsigned_abs, true, false, ltb, List, ◌++◌, length, take, drop, Some, refl, sym, ap, subst, ◌∙◌, append_assoc, arith}
use Rattle.std.specs.Prelude.{FitsSigned, nat_le, nat_lt}
use Rattle.std.specs.Int.{w128}
use Rattle.std.proofs.lemmas.Bool.{ltb-false, ltb-true, leb-true, lt-ltb, le-leb, le-ltb, and_parts}
use Rattle.std.proofs.lemmas.List.{drop_at, length-append, length-take, take-append-drop, take_at}
use Rattle.std.proofs.lemmas.Int.{ints}
use Rattle.tk_frames.specs.Reading.{◌>>=◌, bytes_at, counted_at as frame_counted_at, items_at, number_at as frame_number_at, object_at as frame_object_at, signed_at as frame_signed_at}
use Rattle.tk_frames.specs.Spelling.{ArePlaces, IsSet, object_itself, places, set, signed}
use Rattle.tk_base.specs.Ascending.{IsAscending}
use Rattle.tk_base.specs.Objects.{IsOneOf}
use Rattle.tk_frames.proofs.AscentLemmas.{objects_ascend}
use Rattle.tk_frames.proofs.ExactLemmas.{IsExact, exact_as, exact_both, exact_fact}
use Rattle.tk_frames.proofs.FieldLemmas.{exact_set as set_is_exact, exact_places as places_are_exact, exact_signed as signed_is_exact}
use Rattle.tk_frames.proofs.Steps.{bind_some, passed, some_is}
use Rattle.tk_trace.specs.Reading.{bounds_at, epsilon_at, is_epsilon, is_one_of, name_at, number_at, object_at, places_at, set_at, signed_at, tested_at, text_at}
use Rattle.tk_trace.specs.Spelling.{IsEpsilon, bounds, name, number}
use Rattle.tk_trace.proofs.ExactLemmas.{exact_number, exact_tested}

pub exact_signed : IsExact (FitsSigned w128) (signed 1) signed_at
unfolding signed_at frame_signed_at frame_number_at bytes_at
exact_signed = signed_is_exact 1

pub exact_set : IsExact IsSet (set 1) set_at
unfolding set_at frame_counted_at frame_object_at object_at frame_number_at bytes_at
exact_set = set_is_exact 1

-- objects that were read ascend
pub set_ascends : (count : ℕ) (bytes xs rest : List ℕ) → items_at object_itself object_at 0 count bytes ≡ Some (xs, rest) → IsAscending xs
unfolding frame_object_at object_at frame_number_at bytes_at
set_ascends = objects_ascend 1

pub exact_places : IsExact ArePlaces (places 1) places_at
unfolding places_at frame_counted_at frame_number_at bytes_at
exact_places = places_are_exact 1

-- ---- one of so many

pub one_of_many : (many number : ℕ) → is_one_of many number ≡ true → IsOneOf many number
one_of_many many number e =
    let p = and_parts (nat_lt 0 number) (nat_le number many) e in
    (ltb-true 0 number p.0, leb-true number many p.1)

pub many_has : (many number : ℕ) → IsOneOf many number → is_one_of many number ≡ true
many_has many number one = rw (lt-ltb 0 number one.0) (le-leb number many one.1)

pub exact_one_of : (size many : ℕ) → many < 256 ^ size → IsExact (IsOneOf many) (number size) (tested_at (is_one_of many) (number_at size))
exact_one_of size many small = exact_fact (λ n fact. fact.0) (λ n one. (one, omega (arith, one.1))) (exact_tested (is_one_of many) (one_of_many many) (many_has many) (exact_number size))

-- ---- epsilon

pub exact_epsilon : IsExact IsEpsilon (λ z. number 16 (unsigned_abs z)) epsilon_at
unfolding epsilon_at
exact_epsilon = exact_as pos unsigned_abs to from (exact_tested {T = λ n. n < 2 ^ 127} is_epsilon (λ n e. ltb-true n (2 ^ 127) e) (λ n lt. lt-ltb n (2 ^ 127) lt) (exact_number 16))
  where
    to : (n : ℕ) → (n < 2 ^ 127) × (n < 256 ^ 16) → IsEpsilon (pos n) × (unsigned_abs (pos n) ≡ n)
    to n small = (record { from_zero = omega (arith, ints); within = omega (arith, ints) }, refl)

    from : (z : ℤ) → IsEpsilon z → ((unsigned_abs z < 2 ^ 127) × (unsigned_abs z < 256 ^ 16)) × (pos (unsigned_abs z) ≡ z)
    from (pos n) is = ((omega (arith, ints, is.within), omega (arith, ints, is.within)), refl)
    from (negsuc n) is = absurd (omega (arith, ints, is.from_zero))

pub exact_bounds : IsExact (λ (b : ℕ × ℤ). (b.0 < 2 ^ 32) × IsEpsilon b.1) (λ b. bounds b.0 b.1) bounds_at
unfolding bounds_at
exact_bounds = exact_both (exact_number 4) exact_epsilon

-- ---- names

pub exact_name : IsExact (λ (bytes : List ℕ). length bytes < 256) name name_at
unfolding name_at
exact_name = record {
  takes = λ bytes text rest fits e.
      let a = bind_some (number_at 1 bytes) (λ size. text_at size.0 size.1) (text, rest) e in
      let p = passed (ltb (length a.0.1) a.0.0) (Some (take a.0.0 a.0.1, drop a.0.0 a.0.1)) (text, rest) a.2 in
      let t = (exact_number 1).takes bytes a.0.0 a.0.1 fits a.1 in
      let long : a.0.0 ≤ length a.0.1 = ltb-false (length a.0.1) a.0.0 p.0 in
      let is = some_is (take a.0.0 a.0.1, drop a.0.0 a.0.1) (text, rest) p.1 in
      let size : length (take a.0.0 a.0.1) ≡ a.0.0 = omega (arith, length-take a.0.0 a.0.1, long) in
      let whole : bytes ≡ (number 1 (length (take a.0.0 a.0.1)) ++ take a.0.0 a.0.1) ++ drop a.0.0 a.0.1 =
      t.0 ∙ ap (λ (w : List ℕ). number 1 a.0.0 ++ w) (sym (take-append-drop a.0.0 a.0.1))
      ∙ ap (λ (n : ℕ). number 1 n ++ (take a.0.0 a.0.1 ++ drop a.0.0 a.0.1)) (sym size)
      ∙ sym (append_assoc (number 1 (length (take a.0.0 a.0.1))) (take a.0.0 a.0.1) (drop a.0.0 a.0.1)) in
      subst (λ (w : List ℕ × List ℕ). (bytes ≡ name w.0 ++ w.1) × (length w.0 < 256)) is (whole, omega (arith, size, t.1));
  again = λ text rest small.
      let long : ltb (length (text ++ rest)) (length text) ≡ false = le-ltb (length (text ++ rest)) (length text) (omega (arith, length-append text rest)) in
      ap (λ (w : List ℕ). number_at 1 w >>= λ size. text_at size.0 size.1) (append_assoc (number 1 (length text)) text rest)
      ∙ ap (λ r. r >>= λ size. text_at size.0 size.1) ((exact_number 1).again (length text) (text ++ rest) small)
      ∙ rw (long, take_at text rest (length text) refl, drop_at text rest (length text) refl) refl;
}
