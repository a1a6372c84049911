-- The places of parts, where one of them is raised.
use Rattle.std.proofs.Common.{◌≡◌, ℕ, ◌+◌, ◌-◌, ◌<◌, ◌≤◌, min, List, [], length, get_or, set, ap, sym, subst, ◌∙◌, arith, ⊎_elim}
use Rattle.std.specs.Prelude.{slice_get}
use Rattle.std.proofs.Math.ListN.{length-set}
use Rattle.std.proofs.lemmas.Bool.{cases_eq, cases_lt}
use Rattle.std.proofs.lemmas.List.{get_or-set_same, get_or-set_other}
use Rattle.std.proofs.lemmas.Option.{slice_get_past}
use Rattle.tk_multi.specs.Front.{HasPlace, place_of, raised}

-- the place that was raised
pub raised_here : (places : List (List ℕ)) (mon f : ℕ) → HasPlace places mon f → place_of (raised places mon f) mon f ≡ place_of places mon f + 1
raised_here places mon f has =
    let row = get_or places (mon - 1) [] in
    let at : get_or (raised places mon f) (mon - 1) [] ≡ set row (f - 1) (get_or row (f - 1) 0 + 1)
    = get_or-set_same places (mon - 1) (set row (f - 1) (get_or row (f - 1) 0 + 1)) [] (let a = has.from_one in let b = has.monitor in omega (arith, a, b)) in
    ap (λ (r : List ℕ). get_or r (f - 1) 0) at
    ∙ get_or-set_same row (f - 1) (get_or row (f - 1) 0 + 1) 0 (let a = has.some in let b = has.within in omega (arith, a, b))

-- the place of another monitor, and of another feeder of that monitor
raised_mon : (places : List (List ℕ)) (mon f m g : ℕ) → (m - 1 ≡ mon - 1 → ⊥) → place_of (raised places mon f) m g ≡ place_of places m g
raised_mon places mon f m g other =
    ap (λ (r : List ℕ). get_or r (g - 1) 0) (get_or-set_other places (mon - 1) (m - 1) (set (get_or places (mon - 1) []) (f - 1) (place_of places mon f + 1)) [] other)

raised_feeder : (places : List (List ℕ)) (mon f g : ℕ) → HasPlace places mon f → (g - 1 ≡ f - 1 → ⊥) → place_of (raised places mon f) mon g ≡ place_of places mon g
raised_feeder places mon f g has other =
    let row = get_or places (mon - 1) [] in
    let at : get_or (raised places mon f) (mon - 1) [] ≡ set row (f - 1) (get_or row (f - 1) 0 + 1)
    = get_or-set_same places (mon - 1) (set row (f - 1) (get_or row (f - 1) 0 + 1)) [] (let a = has.from_one in let b = has.monitor in omega (arith, a, b)) in
    ap (λ (r : List ℕ). get_or r (g - 1) 0) at ∙ get_or-set_other row (f - 1) (g - 1) (get_or row (f - 1) 0 + 1) 0 other

pub raised_there : (places : List (List ℕ)) (mon f m g : ℕ) → HasPlace places mon f → 1 ≤ m → 1 ≤ g → (m ≡ mon → g ≡ f → ⊥)
    → place_of (raised places mon f) m g ≡ place_of places m g
raised_there places mon f m g has one some other = ⊎_elim
    (λ (same : m ≡ mon). subst (λ (x : ℕ). place_of (raised places mon f) x g ≡ place_of places x g) (sym same)
    (raised_feeder places mon f g has (λ back. other same (let a = has.some in omega (arith, a, some, back)))))
    (λ (apart : m ≡ mon → ⊥). raised_mon places mon f m g (λ back. apart (let a = has.from_one in omega (arith, a, one, back))))
    (cases_eq m mon)

-- raising keeps how many places there are
pub raised_length : (places : List (List ℕ)) (mon f : ℕ) → length (raised places mon f) ≡ length places
raised_length places mon f = length-set places (mon - 1) (set (get_or places (mon - 1) []) (f - 1) (place_of places mon f + 1))

pub raised_row : (places : List (List ℕ)) (mon f j : ℕ) → HasPlace places mon f → length (get_or (raised places mon f) j []) ≡ length (get_or places j [])
raised_row places mon f j has =
    let row = get_or places (mon - 1) [] in
    let new = set row (f - 1) (get_or row (f - 1) 0 + 1) in
    ⊎_elim
    (λ (same : j ≡ mon - 1). subst (λ (i : ℕ). length (get_or (raised places mon f) i []) ≡ length (get_or places i [])) (sym same)
    (ap (λ (r : List ℕ). length r) (get_or-set_same places (mon - 1) new [] (let a = has.from_one in let b = has.monitor in omega (arith, a, b)))
    ∙ length-set row (f - 1) (get_or row (f - 1) 0 + 1)))
    (λ (apart : j ≡ mon - 1 → ⊥). ap (λ (r : List ℕ). length r) (get_or-set_other places (mon - 1) j new [] apart))
    (cases_eq j (mon - 1))

-- what stands at a place is what stands at the number of raises, also past the end
pub at_most : {A : Type 0} (xs : List A) (count : ℕ) → slice_get xs (min count (length xs)) ≡ slice_get xs count
at_most xs count = ⊎_elim
    (λ (below : count < length xs). ap (slice_get xs) (omega arith))
    (λ (past : length xs ≤ count). slice_get_past xs (min count (length xs)) (omega arith) ∙ sym (slice_get_past xs count past))
    (cases_lt count (length xs))
