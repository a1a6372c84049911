-- How many objects are picked, and in what order, by candidates that are put in order one at a time.
use Rattle.std.proofs.Common.{◌≡◌, ℕ, suc, zero, ◌+◌, ◌-◌, ◌<◌, ◌≤◌, ℤ, pos, List, [], ◌∷◌, length, map, get_or, Bool, false, cond, sym, subst, arith, inl, inr}
use Rattle.std.specs.Cmp.{IsStrictWeakOrder}
use Rattle.std.specs.List.Sorted.{IsPermutation, IsSortedBy}
use Rattle.std.proofs.lemmas.Bool.{cases_Bool}
use Rattle.std.proofs.lemmas.List.{length-map, get_or_default}
use Rattle.std.proofs.lemmas.List.Sorted.{IsPermutation-refl, IsPermutation-sym, IsPermutation-trans, IsPermutation-cons, IsPermutation-middle, length_permutation}
use Rattle.tk_base.specs.Ascending.{IsAscending}
use Rattle.tk_base.specs.Pairs.{objects_of}
use Rattle.tk_alloc.specs.Candidates.{candidate, comes_first}
use Rattle.tk_alloc.specs.Pick.{is_among_first, picked}
use Rattle.tk_alloc.proofs.AscentLemmas.{ascending_filter}
use Rattle.tk_alloc.proofs.PickLemmas.{candidates_rank, IsRanked, length-picked_ranked}

-- a list with one more element, behind all at its front that come before it
abbrev place : {X : Type 0} → (X → X → Bool) → X → List X → List X
place lt x [] = x ∷ []
place lt x (y ∷ ys) = cond (lt y x) (y ∷ place lt x ys) (x ∷ y ∷ ys)

-- the elements of a list, placed one at a time
abbrev ranked : {X : Type 0} → (X → X → Bool) → List X → List X
ranked lt [] = []
ranked lt (x ∷ xs) = place lt x (ranked lt xs)

-- no element comes before its predecessor, nor the first before b
abbrev Climb : {X : Type 0} → (X → X → Bool) → X → List X → Type 0
Climb lt b [] = Unit {0}
Climb lt b (x ∷ xs) = (lt x b ≡ false) × Climb lt x xs

-- no element comes before its predecessor
abbrev Climbs : {X : Type 0} → (X → X → Bool) → List X → Type 0
Climbs lt [] = Unit {0}
Climbs lt (x ∷ xs) = Climb lt x xs

-- placing an element only moves it
place_permutes : {X : Type 0} (lt : X → X → Bool) (x : X) (ys : List X) → IsPermutation (x ∷ ys) (place lt x ys)
place_permutes lt x [] = IsPermutation-refl (x ∷ [])
place_permutes lt x (y ∷ ys) =
    let after : IsPermutation (x ∷ y ∷ ys) (y ∷ place lt x ys) =
    IsPermutation-trans (x ∷ y ∷ ys) (y ∷ x ∷ ys) (y ∷ place lt x ys)
    (IsPermutation-sym (y ∷ x ∷ ys) (x ∷ y ∷ ys) (IsPermutation-middle (y ∷ []) x ys))
    (IsPermutation-cons y (x ∷ ys) (place lt x ys) (place_permutes lt x ys)) in
    elim (cases_Bool (lt y x)) [
      | inl first ↦ subst (λ b. IsPermutation (x ∷ y ∷ ys) (cond b (y ∷ place lt x ys) (x ∷ y ∷ ys))) (sym first) after
      | inr not_first ↦ subst (λ b. IsPermutation (x ∷ y ∷ ys) (cond b (y ∷ place lt x ys) (x ∷ y ∷ ys))) (sym not_first) (IsPermutation-refl (x ∷ y ∷ ys))
    ]

-- ranking a list only moves its elements
ranked_permutes : {X : Type 0} (lt : X → X → Bool) (xs : List X) → IsPermutation xs (ranked lt xs)
ranked_permutes lt [] = IsPermutation-refl []
ranked_permutes lt (x ∷ xs) =
    IsPermutation-trans (x ∷ xs) (x ∷ ranked lt xs) (place lt x (ranked lt xs))
    (IsPermutation-cons x xs (ranked lt xs) (ranked_permutes lt xs))
    (place_permutes lt x (ranked lt xs))

-- an element that does not come before b is placed behind b in order
climb_place : {X : Type 0} (lt : X → X → Bool) → IsStrictWeakOrder lt → (b x : X) (ys : List X) → lt x b ≡ false → Climb lt b ys → Climb lt b (place lt x ys)
climb_place lt o b x [] behind up = (behind, tt)
climb_place lt o b x (y ∷ ys) behind up = elim (cases_Bool (lt y x)) [
  | inl first ↦ subst (λ c. Climb lt b (cond c (y ∷ place lt x ys) (x ∷ y ∷ ys))) (sym first) (up.0, climb_place lt o y x ys (o.one_way y x first) up.1)
  | inr not_first ↦ subst (λ c. Climb lt b (cond c (y ∷ place lt x ys) (x ∷ y ∷ ys))) (sym not_first) (behind, (not_first, up.1))
]

-- a list in order is in order with one more element placed
climbs_place : {X : Type 0} (lt : X → X → Bool) → IsStrictWeakOrder lt → (x : X) (ys : List X) → Climbs lt ys → Climbs lt (place lt x ys)
climbs_place lt o x [] up = tt
climbs_place lt o x (y ∷ ys) up = elim (cases_Bool (lt y x)) [
  | inl first ↦ subst (λ c. Climbs lt (cond c (y ∷ place lt x ys) (x ∷ y ∷ ys))) (sym first) (climb_place lt o y x ys (o.one_way y x first) up)
  | inr not_first ↦ subst (λ c. Climbs lt (cond c (y ∷ place lt x ys) (x ∷ y ∷ ys))) (sym not_first) (not_first, up)
]

-- a ranked list is in order
climbs_ranked : {X : Type 0} (lt : X → X → Bool) → IsStrictWeakOrder lt → (xs : List X) → Climbs lt (ranked lt xs)
climbs_ranked lt o [] = tt
climbs_ranked lt o (x ∷ xs) = climbs_place lt o x (ranked lt xs) (climbs_ranked lt o xs)

-- in a list in order behind b, the element at k does not come before the one in front of it
from_climb : {X : Type 0} (lt : X → X → Bool) (b : X) (xs : List X) → Climb lt b xs → (k : ℕ) (d : X) → k < length xs → lt (get_or xs k d) (get_or (b ∷ xs) k d) ≡ false
from_climb lt b [] up k d within = absurd (omega arith)
from_climb lt b (x ∷ xs) up zero d within = up.0
from_climb lt b (x ∷ xs) up (suc k) d within = from_climb lt x xs up.1 k d (omega arith)

-- a list in order is sorted
sorted_from_climbs : {X : Type 0} (lt : X → X → Bool) (xs : List X) → Climbs lt xs → IsSortedBy lt xs
sorted_from_climbs lt [] up k d low within = absurd (omega arith)
sorted_from_climbs lt (x ∷ xs) up k d low within =
    let next : suc k ≡ k + 1 = omega arith in
    subst (λ n. lt (get_or (x ∷ xs) n d) (get_or (x ∷ xs) k d) ≡ false) next (from_climb lt x xs up k d (omega arith))

-- the candidates can be put in order
candidates_ranked : (present : List ℕ) (totals : List (ℕ × ℤ)) → IsRanked present totals (ranked comes_first (map (candidate present) totals))
candidates_ranked present totals = record {
  all = ranked_permutes comes_first (map (candidate present) totals);
  order = sorted_from_climbs comes_first (ranked comes_first (map (candidate present) totals)) (climbs_ranked comes_first candidates_rank (map (candidate present) totals));
}

-- of at least k objects in ascending order exactly k are picked
pub length-picked : (present : List ℕ) (totals : List (ℕ × ℤ)) (k : ℕ) → IsAscending (objects_of totals) → 0 < k → k ≤ length totals → length (picked totals present k) ≡ k
length-picked present totals k up some enough =
    let s = ranked comes_first (map (candidate present) totals) in
    let r = candidates_ranked present totals in
    let within : k - 1 < length s = omega (arith, length_permutation (map (candidate present) totals) s r.all, length-map totals (candidate present)) in
    let default = candidate present (0, pos 0) in
    let last = get_or s (k - 1) default in
    let back : k - 1 + 1 ≡ k = omega arith in
    subst (λ n. length (picked totals present n) ≡ n) back
    (length-picked_ranked present totals s (k - 1) last r up within (get_or_default s (k - 1) default last within))

-- what is picked from ascending objects ascends
pub picked_ascends : (present : List ℕ) (totals : List (ℕ × ℤ)) (k : ℕ) → IsAscending (objects_of totals) → IsAscending (picked totals present k)
unfolding picked
picked_ascends present totals k up = ascending_filter (is_among_first totals present k) totals up
