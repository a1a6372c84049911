-- Laws of ascending lists.
use Rattle.std.proofs.Common.{◌≡◌, ℕ, suc, zero, ◌+◌, ◌<◌, ◌≤◌, List, [], ◌∷◌, ◌++◌, length, take, get_or, Option, Some, None, refl, sym, ap, ◌∙◌, subst, arith, inl, inr}
use Rattle.std.proofs.Math.Seq.{take-length, take-append_seam, get_or-append_seam}
use Rattle.std.proofs.lemmas.List.{get_or-take, length-take, length-append, get_or_append_left, take-append-le}
use Rattle.std.proofs.lemmas.Bool.{cases_lt}
use Rattle.tk_base.specs.Ascending.{IsAscending, FirstDisorder, IsKnownOrder}

-- what stands before a place within a front stands there in the whole list
before-take : (xs : List ℕ) (n k : ℕ) → k < n → get_or (0 ∷ take n xs) k 0 ≡ get_or (0 ∷ xs) k 0
before-take xs n zero h = refl
before-take xs n (suc k) h = get_or-take n xs k 0 (omega arith)

-- a front ascends with one more number that is above the one before
pub ascending_more : (xs : List ℕ) (i : ℕ) → i < length xs → IsAscending (take i xs) → get_or (0 ∷ xs) i 0 < get_or xs i 0 → IsAscending (take (i + 1) xs)
ascending_more xs i within front rise k h =
    let short : k < i + 1 = omega (arith, length-take (i + 1) xs) in
    let P : ℕ → ℕ → Type 0 = λ a b. a < b in
    let goal : get_or (0 ∷ xs) k 0 < get_or xs k 0 = elim (cases_lt k i) [
      | inl lt ↦ let old : get_or (0 ∷ take i xs) k 0 < get_or (take i xs) k 0 = front k (omega (arith, length-take i xs)) in
          omega (arith, before-take xs i k lt, get_or-take i xs k 0 lt)
      | inr ge ↦ let e : k ≡ i = omega arith in subst (λ (n : ℕ). get_or (0 ∷ xs) n 0 < get_or xs n 0) (sym e) rise
    ] in
    omega (arith, before-take xs (i + 1) k short, get_or-take (i + 1) xs k 0 short)

-- of two places of an ascending list the later has the greater number
pub ascending_apart : (xs : List ℕ) → IsAscending xs → (i j : ℕ) → i < j → j < length xs → get_or xs i 0 < get_or xs j 0
ascending_apart xs up i zero before within = absurd (omega arith)
ascending_apart xs up i (suc j) before within =
    let step : get_or xs j 0 < get_or xs (suc j) 0 = up (suc j) within in
    elim (cases_lt i j) [
      | inl lt ↦ let far : get_or xs i 0 < get_or xs j 0 = ascending_apart xs up i j lt (omega arith) in omega arith
      | inr ge ↦ let e : i ≡ j = omega arith in subst (λ (n : ℕ). get_or xs n 0 < get_or xs (suc j) 0) (sym e) step
    ]

-- the same for places that may be one
pub ascending_along : (xs : List ℕ) → IsAscending xs → (i j : ℕ) → i ≤ j → j < length xs → get_or xs i 0 ≤ get_or xs j 0
ascending_along xs up i j before within = elim (cases_lt i j) [
  | inl lt ↦ let far = ascending_apart xs up i j lt within in omega arith
  | inr ge ↦ let e : i ≡ j = omega arith in subst (λ (n : ℕ). get_or xs n 0 ≤ get_or xs j 0) (sym e) (omega arith)
]

-- an ascending list has a number at most once
pub ascending_once : (xs : List ℕ) → IsAscending xs → (i j : ℕ) → i < length xs → j < length xs → get_or xs i 0 ≡ get_or xs j 0 → i ≡ j
ascending_once xs up i j left right same = elim (cases_lt i j) [
  | inl lt ↦ let far = ascending_apart xs up i j lt right in absurd (omega arith)
  | inr ge ↦ elim (cases_lt j i) [
    | inl lt ↦ let far = ascending_apart xs up j i lt left in absurd (omega arith)
    | inr le ↦ omega arith
  ]
]

-- the numbers of an ascending list are at least 1
pub ascending_positive : (xs : List ℕ) → IsAscending xs → (i : ℕ) → i < length xs → 0 < get_or xs i 0
ascending_positive xs up i within = let rise = up i within in omega arith

-- a list with a disorder does not ascend
pub disorder_refuses : (xs : List ℕ) (place : ℕ) → FirstDisorder xs place → IsAscending xs → ⊥
disorder_refuses xs place d up = let rise = up place d.within in omega (arith, d.falls)

-- the last number, with 0 in front, of a list with one more in front of another
last_but_one : (xs : List ℕ) (o : ℕ) → get_or (0 ∷ xs ++ o ∷ []) (length xs) 0 ≡ get_or (0 ∷ xs) (length xs) 0
last_but_one xs o = get_or_append_left (0 ∷ xs) (o ∷ []) 0 (length xs) (omega arith)

-- a list that ascends does so with a number that is above its last
pub ascending_one_more : (xs : List ℕ) (o : ℕ) → IsAscending xs → get_or (0 ∷ xs) (length xs) 0 < o → IsAscending (xs ++ o ∷ [])
ascending_one_more xs o up above =
    let all = xs ++ o ∷ [] in
    let front = subst IsAscending (sym (take-append_seam xs (o ∷ []))) up in
    let rise : get_or (0 ∷ all) (length xs) 0 < get_or all (length xs) 0 = omega (arith, above, last_but_one xs o, get_or-append_seam xs o [] 0) in
    let more = ascending_more all (length xs) (omega (arith, length-append xs (o ∷ []))) front rise in
    subst IsAscending (ap (λ (n : ℕ). take n all) (sym (length-append xs (o ∷ []))) ∙ take-length all) more

-- the first number that is not above the one before is where the list stops to ascend
pub stops_here : (xs : List ℕ) (o : ℕ) → IsAscending xs → o ≤ get_or (0 ∷ xs) (length xs) 0 → FirstDisorder (xs ++ o ∷ []) (length xs)
stops_here xs o up below = record {
  within = omega (arith, length-append xs (o ∷ []));
  front = subst IsAscending (sym (take-append_seam xs (o ∷ []))) up;
  falls = omega (arith, below, last_but_one xs o, get_or-append_seam xs o [] 0);
}

-- it stays where it was with one more
pub stopped_before : (xs : List ℕ) (o place : ℕ) → FirstDisorder xs place → FirstDisorder (xs ++ o ∷ []) place
stopped_before xs o place d = record {
  within = omega (arith, d.within, length-append xs (o ∷ []));
  front = subst IsAscending (sym (take-append-le place xs (o ∷ []) (omega (arith, d.within)))) d.front;
  falls = omega (arith, d.falls, get_or_append_left xs (o ∷ []) 0 place d.within, get_or_append_left (0 ∷ xs) (o ∷ []) 0 place (omega (arith, d.within)));
}

last_of_more : (xs : List ℕ) (o : ℕ) → get_or (0 ∷ xs ++ o ∷ []) (length (xs ++ o ∷ [])) 0 ≡ o
last_of_more xs o =
    let more : length (xs ++ o ∷ []) ≡ suc (length xs) = omega (arith, length-append xs (o ∷ [])) in
    ap (λ (n : ℕ). get_or (0 ∷ xs ++ o ∷ []) n 0) more ∙ get_or-append_seam xs o [] 0

-- the same of what is known of a list that grows
rises : (xs : List ℕ) (last o : ℕ) → IsKnownOrder xs last None → last < o → IsKnownOrder (xs ++ o ∷ []) o None
rises xs last o (up, is) above = (ascending_one_more xs o up (omega (arith, above, is)), sym (last_of_more xs o))

pub falls : (xs : List ℕ) (last o : ℕ) → IsKnownOrder xs last None → o ≤ last → IsKnownOrder (xs ++ o ∷ []) o (Some (length xs))
falls xs last o (up, is) below = stops_here xs o up (omega (arith, below, is))

pub stays : (xs : List ℕ) (last o : ℕ) (d : Option ℕ) → IsKnownOrder xs last d → (d ≡ None → last < o) → IsKnownOrder (xs ++ o ∷ []) o d
stays xs last o None known above = rises xs last o known (above refl)
stays xs last o (Some place) known above = stopped_before xs o place known
