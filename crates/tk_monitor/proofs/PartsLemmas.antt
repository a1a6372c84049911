-- Parts and places: what is left, and one more change.
use Rattle.std.proofs.Common.{◌≡◌, ℕ, suc, zero, ◌<◌, ◌≤◌, ◌+◌, ◌-◌, Bool, true, false, ◌&&◌, ◌==◌, List, [], ◌∷◌, length, take, get_or, set, Some, None, refl, sym, ap, ◌∙◌, arith, eq-eqb, ne_eqb}
use Rattle.std.specs.Prelude.{ℤ, sum_by, slice_get}
use Rattle.std.specs.List.{zip, list_all}
use Rattle.std.proofs.lemmas.Map.Views.{exact_unsigned_eq}
use Rattle.std.proofs.lemmas.List.Sums.{sum_by_more, sum_by-cons}
use Rattle.std.proofs.lemmas.Slice.Zip.{get_or-zip, length-zip}
use Rattle.tk_monitor.specs.Kept.{left_in}

-- what is left of some parts at their places
abbrev pub left_count : List (List (ℕ × ℤ) × ℕ) → ℕ
left_count pairs = sum_by (λ (p : List (ℕ × ℤ) × ℕ). length p.0 - p.1) pairs

pub left_more : (parts : List (List (ℕ × ℤ))) (next : List ℕ) (i : ℕ) → i < length parts → i < length next → left_count (take (i + 1) (zip parts next)) ≡ left_count (take i (zip parts next)) + (length (get_or parts i []) - get_or next i 0)
left_more parts next i within inside =
    sum_by_more (λ (p : List (ℕ × ℤ) × ℕ). length p.0 - p.1) (zip parts next) i ([], 0) (omega (arith, length-zip parts next))
    ∙ ap (λ (p : List (ℕ × ℤ) × ℕ). left_count (take i (zip parts next)) + (length p.0 - p.1)) (get_or-zip parts next i ([], 0) within inside)

-- one change less is left
pub left_less : (parts : List (List (ℕ × ℤ))) (next : List ℕ) (i : ℕ) → i < length parts → i < length next → get_or next i 0 < length (get_or parts i []) → left_in parts (set next i (suc (get_or next i 0))) + 1 ≡ left_in parts next
left_less [] next i within inside goes = absurd (omega arith)
left_less (part ∷ parts) [] i within inside goes = absurd (omega arith)
left_less (part ∷ parts) (place ∷ next) zero within inside goes =
    omega (
      arith,
      sum_by-cons (λ (p : List (ℕ × ℤ) × ℕ). length p.0 - p.1) (part, suc place) (zip parts next),
      sum_by-cons (λ (p : List (ℕ × ℤ) × ℕ). length p.0 - p.1) (part, place) (zip parts next),
    )
left_less (part ∷ parts) (place ∷ next) (suc i) within inside goes =
    omega (
      arith,
      sum_by-cons (λ (p : List (ℕ × ℤ) × ℕ). length p.0 - p.1) (part, place) (zip parts (set next i (suc (get_or next i 0)))),
      sum_by-cons (λ (p : List (ℕ × ℤ) × ℕ). length p.0 - p.1) (part, place) (zip parts next),
      left_less parts next i (omega arith) (omega arith) goes,
    )

-- nothing is left exactly at the ends
ends_first : (a b : Bool) (m n : ℕ) → (m ≡ 0 → a ≡ true) → (a ≡ true → m ≡ 0) → b ≡ (n == 0) → (a && b) ≡ (m + n == 0)
ends_first true b m n there back rest = let none : m ≡ 0 = back refl in rest ∙ ap (λ k. k == 0) (let e : n ≡ m + n = omega arith in e)
ends_first false b m n there back rest = sym (ne_eqb (m + n) 0 (λ none. absurd (let e = there (omega (arith, none)) in cc)))

pub ends_left : (parts : List (List (ℕ × ℤ))) (next : List ℕ) → length next ≡ length parts → ((i : ℕ) → get_or next i 0 ≤ length (get_or parts i [])) → list_all (λ (p : List (ℕ × ℤ) × ℕ). p.1 == length p.0) (zip parts next) ≡ (left_in parts next == 0)
ends_left [] next shape within = refl
ends_left (part ∷ parts) [] shape within = absurd (omega arith)
ends_left (part ∷ parts) (place ∷ next) shape within =
    let below : place ≤ length part = within 0 in
    ends_first (place == length part) (list_all (λ (p : List (ℕ × ℤ) × ℕ). p.1 == length p.0) (zip parts next)) (length part - place) (left_in parts next)
    (λ none. eq-eqb place (length part) (omega (arith, none, below)))
    (λ is. omega (arith, exact_unsigned_eq place (length part) is))
    (ends_left parts next (omega arith) (λ i. within (suc i)))
    ∙ ap (λ k. k == 0) (sym (sum_by-cons (λ (p : List (ℕ × ℤ) × ℕ). length p.0 - p.1) (part, place) (zip parts next)))

pub got_below : (xs : List (ℕ × ℤ)) (p : ℕ) (c : ℕ × ℤ) → slice_get xs p ≡ Some c → p < length xs
got_below [] p c got = cc
got_below (x ∷ xs) zero c got = omega arith
got_below (x ∷ xs) (suc p) c got = omega (arith, got_below xs p c got)

pub got_past : (xs : List (ℕ × ℤ)) (p : ℕ) → slice_get xs p ≡ None → length xs ≤ p
got_past [] p none = omega arith
got_past (x ∷ xs) zero none = cc
got_past (x ∷ xs) (suc p) none = omega (arith, got_past xs p none)

pub got_is : (xs : List (ℕ × ℤ)) (p : ℕ) (c d : ℕ × ℤ) → slice_get xs p ≡ Some c → get_or xs p d ≡ c
got_is [] p c d got = cc
got_is (x ∷ xs) zero c d got = cc
got_is (x ∷ xs) (suc p) c d got = got_is xs p c d got
