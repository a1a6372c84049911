-- Ascending lists by recursion, and as what they hold.
use Rattle.std.proofs.Common.{◌≡◌, ℕ, suc, zero, ◌+◌, ◌<◌, ◌≤◌, Bool, true, false, ◌||◌, ◌&&◌, cond, eqb, ltb, leb, List, [], ◌∷◌, ◌++◌, length, get_or, filter, refl, sym, ap, ap₂, ◌∙◌, arith, inl, inr, eq-eqb, ne_eqb, suc-add, map}
use Rattle.std.specs.List.{range_with_len, All}
use Rattle.std.proofs.lemmas.Bool.{cases_lt, cases_eq, false≢true, cases_order, or_cases, eqb-true}
use Rattle.std.proofs.lemmas.Bool.Decides.{nat_tests}
use Rattle.std.proofs.lemmas.List.Elements.{All-head, All-tail}
use Rattle.std.proofs.lemmas.List.{map-append}
use Rattle.tk_base.specs.Ascending.{IsAscending}
use Rattle.tk_base.specs.Objects.{objects, is_in}
use Rattle.tk_base.proofs.MemberLemmas.{is_in-head}

-- each number is above the one before it, and the first is above b
abbrev pub Rises : ℕ → List ℕ → Type 0
Rises b [] = Unit {0}
Rises b (x ∷ xs) = (b < x) × Rises x xs

-- the same by places
rises_by_places : (b : ℕ) (xs : List ℕ) → ((k : ℕ) → k < length xs → get_or (b ∷ xs) k 0 < get_or xs k 0) → Rises b xs
rises_by_places b [] up = tt
rises_by_places b (x ∷ xs) up = (up 0 (omega arith), rises_by_places x xs (λ k h. up (suc k) (omega arith)))

places_of_rise : (b : ℕ) (xs : List ℕ) → Rises b xs → (k : ℕ) → k < length xs → get_or (b ∷ xs) k 0 < get_or xs k 0
places_of_rise b [] up k h = absurd (omega arith)
places_of_rise b (x ∷ xs) up zero h = up.0
places_of_rise b (x ∷ xs) up (suc k) h = places_of_rise x xs up.1 k (omega arith)

pub rises : (xs : List ℕ) → IsAscending xs → Rises 0 xs
rises xs up = rises_by_places 0 xs up

pub ascends : (xs : List ℕ) → Rises 0 xs → IsAscending xs
ascends xs up = places_of_rise 0 xs up

pub rises_from_lower : (a b : ℕ) (xs : List ℕ) → a ≤ b → Rises b xs → Rises a xs
rises_from_lower a b [] low up = tt
rises_from_lower a b (x ∷ xs) low up = (omega (arith, up.0), up.1)

-- what a filter keeps of a rising list rises
pub rises-filter : (p : ℕ → Bool) (b : ℕ) (xs : List ℕ) → Rises b xs → Rises b (filter p xs)
rises-filter p b [] up = tt
rises-filter p b (x ∷ xs) up =
    let rest : Rises x (filter p xs) = rises-filter p x xs up.1 in
    elim (p x) as (λ t. Rises b (cond t (x ∷ filter p xs) (filter p xs))) [
      | true ↦ (up.0, rest)
      | false ↦ rises_from_lower b x (filter p xs) (omega (arith, up.0)) rest
    ]

rises-range : (b a n : ℕ) → b < a → Rises b (range_with_len a n)
rises-range b a zero low = tt
rises-range b a (suc n) low = (low, rises-range a (a + 1) n (omega arith))

pub rises-objects : (n : ℕ) → Rises 0 (objects n)
unfolding objects
rises-objects n = rises-range 0 1 n (omega arith)

-- a rising list has nothing up to its bound
pub is_in-low : (b : ℕ) (xs : List ℕ) (o : ℕ) → Rises b xs → o ≤ b → is_in xs o ≡ false
is_in-low b [] o up low = refl
is_in-low b (x ∷ xs) o up low =
    ap (λ t. t || is_in xs o) (ne_eqb x o (λ e. omega (arith, up.0))) ∙ is_in-low x xs o up.1 (omega (arith, up.0))

is_in-past : (x : ℕ) (xs : List ℕ) (o : ℕ) → x < o → is_in (x ∷ xs) o ≡ is_in xs o
is_in-past x xs o past = ap (λ t. t || is_in xs o) (ne_eqb x o (λ e. omega arith))

-- the head of the one is not below that of the other
heads : (a b x y : ℕ) (xs ys : List ℕ) → Rises a (x ∷ xs) → Rises b (y ∷ ys) → ((o : ℕ) → is_in (x ∷ xs) o ≡ is_in (y ∷ ys) o) → x < y → ⊥
heads a b x y xs ys left right same less =
    let low : Rises x (y ∷ ys) = (less, right.1) in
    false≢true (sym (is_in-low x (y ∷ ys) x low (omega arith)) ∙ sym (same x) ∙ is_in-head x xs)

-- what is left holds the same
tails : (x y : ℕ) (xs ys : List ℕ) → x ≡ y → Rises x xs → Rises y ys → ((o : ℕ) → is_in (x ∷ xs) o ≡ is_in (y ∷ ys) o) → (o : ℕ) → is_in xs o ≡ is_in ys o
tails x y xs ys e left right same o = elim (cases_lt x o) [
  | inl past ↦ sym (is_in-past x xs o past) ∙ same o ∙ is_in-past y ys o (omega arith)
  | inr low ↦ is_in-low x xs o left low ∙ sym (is_in-low y ys o right (omega arith))
]

-- two rising lists that hold the same are one
pub same_rising : (a b : ℕ) (xs ys : List ℕ) → Rises a xs → Rises b ys → ((o : ℕ) → is_in xs o ≡ is_in ys o) → xs ≡ ys
same_rising a b [] [] left right same = refl
same_rising a b [] (y ∷ ys) left right same = absurd (false≢true (same y ∙ is_in-head y ys))
same_rising a b (x ∷ xs) [] left right same = absurd (false≢true (sym (same x) ∙ is_in-head x xs))
same_rising a b (x ∷ xs) (y ∷ ys) left right same = elim (cases_order x y) [
  | inl e ↦ ap₂ ◌∷◌ e (same_rising x y xs ys left.1 right.1 (tails x y xs ys e left.1 right.1 same))
  | inr (inl less) ↦ absurd (heads a b x y xs ys left right same less)
  | inr (inr less) ↦ absurd (heads b a y x ys xs right left (λ o. sym (same o)) less)
]

-- ---- what is in a filter, and in a catalogue

and_comm : (a b : Bool) → (a && b) ≡ (b && a)
and_comm true true = refl
and_comm true false = refl
and_comm false true = refl
and_comm false false = refl

or_and : (a b c : Bool) → (a && c || b && c) ≡ ((a || b) && c)
or_and true true true = refl
or_and true true false = refl
or_and true false true = refl
or_and true false false = refl
or_and false b c = refl

is_in-cond : (t : Bool) (x : ℕ) (xs : List ℕ) (o : ℕ) → is_in (cond t (x ∷ xs) xs) o ≡ (t && eqb x o || is_in xs o)
is_in-cond true x xs o = refl
is_in-cond false x xs o = refl

test_here : (p : ℕ → Bool) (x o : ℕ) → (p x && eqb x o) ≡ (eqb x o && p o)
test_here p x o = elim (cases_eq x o) [
  | inl e ↦ rw (eq-eqb x o e) (ap (λ t. t && true) (ap p e) ∙ and_comm (p o) true)
  | inr ne ↦ rw (ne_eqb x o ne) (and_comm (p x) false)
]

pub is_in-filter : (p : ℕ → Bool) (xs : List ℕ) (o : ℕ) → is_in (filter p xs) o ≡ (is_in xs o && p o)
is_in-filter p [] o = refl
is_in-filter p (x ∷ xs) o =
    is_in-cond (p x) x (filter p xs) o
    ∙ ap₂ ◌||◌ (test_here p x o) (is_in-filter p xs o)
    ∙ or_and (eqb x o) (is_in xs o) (p o)

range_step : (a n o : ℕ) → (eqb a o || (leb (a + 1) o && ltb o (a + 1 + n))) ≡ (leb a o && ltb o (a + suc n))
range_step a n o = grind (arith, nat_tests)

range_none : (a o : ℕ) → (leb a o && ltb o (a + 0)) ≡ false
range_none a o = grind (arith, nat_tests)

-- a range holds what is between its ends
is_in-range : (a n o : ℕ) → is_in (range_with_len a n) o ≡ (leb a o && ltb o (a + n))
is_in-range a zero o = sym (range_none a o)
is_in-range a (suc n) o = ap (λ t. eqb a o || t) (is_in-range (a + 1) n o) ∙ range_step a n o

objects_step : (n o : ℕ) → (leb 1 o && ltb o (1 + n)) ≡ (ltb 0 o && leb o n)
objects_step n o = grind (arith, nat_tests)

pub is_in-objects : (n o : ℕ) → is_in (objects n) o ≡ (ltb 0 o && leb o n)
unfolding objects
is_in-objects n o = is_in-range 1 n o ∙ objects_step n o

-- what is in a list is within its bound
pub is_in-within : (xs : List ℕ) (n o : ℕ) → All (λ q. q ≤ n) xs → is_in xs o ≡ true → o ≤ n
is_in-within [] n o short here = absurd (false≢true here)
is_in-within (x ∷ xs) n o short here = elim (or_cases (eqb x o) (is_in xs o) here) [
  | inl e ↦ let first = All-head (λ q. q ≤ n) x xs short in omega (arith, eqb-true x o e)
  | inr later ↦ is_in-within xs n o (All-tail (λ q. q ≤ n) x xs short) later
]

pub is_in-positive : (xs : List ℕ) (o : ℕ) → Rises 0 xs → is_in xs o ≡ true → 0 < o
is_in-positive xs o up here = elim (cases_lt 0 o) [
  | inl more ↦ more
  | inr low ↦ absurd (false≢true (sym (is_in-low 0 xs o up low) ∙ here))
]

pub in_catalogue : (n o : ℕ) → 0 < o → o ≤ n → (ltb 0 o && leb o n) ≡ true
in_catalogue n o low high = grind (arith, nat_tests)

pub range-append : (a m n : ℕ) → range_with_len a (m + n) ≡ range_with_len a m ++ range_with_len (a + m) n
range-append a zero n = ap₂ range_with_len (omega arith) (omega arith)
range-append a (suc m) n =
    ap (range_with_len a) (suc-add m n)
    ∙ ap (λ rest. a ∷ rest) (range-append (a + 1) m n ∙ ap (λ b. range_with_len (a + 1) m ++ range_with_len b n) (omega arith))

-- one more object
pub objects_more : (n : ℕ) → objects (n + 1) ≡ objects n ++ (n + 1) ∷ []
unfolding objects
objects_more n = range-append 1 n 1 ∙ ap (λ o. range_with_len 1 n ++ o ∷ []) (omega arith)

-- one more number, counted from 1
pub range_more : (n : ℕ) → range_with_len 1 (n + 1) ≡ range_with_len 1 n ++ (n + 1) ∷ []
range_more n =
    let last : 1 + n ≡ n + 1 = omega arith in
    range-append 1 n 1 ∙ ap (λ (k : ℕ). range_with_len 1 n ++ k ∷ []) last

-- what is listed by number, and one more of it
pub counted_more : {X : Type 0} (f : ℕ → X) (n : ℕ) → map f (range_with_len 1 (n + 1)) ≡ map f (range_with_len 1 n) ++ f (n + 1) ∷ []
counted_more f n = ap (map f) (range_more n) ∙ map-append f (range_with_len 1 n) ((n + 1) ∷ [])
