-- The resolution set, one object more and as what it holds.
use Rattle.std.proofs.Common.{◌≡◌, ℕ, suc, zero, ◌+◌, ◌-◌, ◌<◌, ◌≤◌, Bool, true, false, ◌||◌, ◌&&◌, cond, List, [], ◌∷◌, ◌++◌, filter, refl, sym, ap, ap₂, ◌∙◌, arith, inl, inr}
use Rattle.std.specs.List.{range_with_len, All}
use Rattle.std.proofs.lemmas.Bool.{cases_Bool, or_cases, or_from}
use Rattle.std.proofs.lemmas.List.Elements.{filter-append, All-filter}
use Rattle.std.proofs.Math.Bool.{and-false}
use Rattle.tk_base.specs.Ascending.{IsAscending}
use Rattle.tk_base.specs.Objects.{objects, is_in}
use Rattle.tk_base.proofs.MemberLemmas.{objects_within}
use Rattle.tk_border.specs.Levels.{resolution, IsPassed}
use Rattle.tk_border.proofs.RisingLemmas.{Rises, ascends, rises-filter, rises-objects, same_rising, is_in-filter, is_in-objects, is_in-within, is_in-positive, in_catalogue, range-append}
use Rattle.tk_border.proofs.PassedLemmas.{between}

abbrev in_either : List ℕ → List ℕ → ℕ → Bool
in_either members failed o = is_in members o || is_in failed o

either_in_catalogue : (members failed : List ℕ) (n o : ℕ) → Rises 0 members → Rises 0 failed → All (λ q. q ≤ n) members → All (λ q. q ≤ n) failed → in_either members failed o ≡ true → is_in (objects n) o ≡ true
either_in_catalogue members failed n o left right low high here = elim (or_cases (is_in members o) (is_in failed o) here) [
  | inl member ↦ is_in-objects n o ∙ in_catalogue n o (is_in-positive members o left member) (is_in-within members n o low member)
  | inr broken ↦ is_in-objects n o ∙ in_catalogue n o (is_in-positive failed o right broken) (is_in-within failed n o high broken)
]

-- it holds what is in either set
pub is_in-resolution : (members failed : List ℕ) (n o : ℕ) → Rises 0 members → Rises 0 failed → All (λ q. q ≤ n) members → All (λ q. q ≤ n) failed → is_in (resolution n members failed) o ≡ (is_in members o || is_in failed o)
is_in-resolution members failed n o left right low high =
    is_in-filter (in_either members failed) (objects n) o
    ∙ elim (cases_Bool (in_either members failed o)) as (λ _. (is_in (objects n) o && in_either members failed o) ≡ in_either members failed o) [
      | inl here ↦ rw (either_in_catalogue members failed n o left right low high here) refl
      | inr gone ↦ rw gone (and-false (is_in (objects n) o))
    ]

-- so it is the same for every catalogue that has both sets
pub resolution_same : (members failed : List ℕ) (m n : ℕ) → Rises 0 members → Rises 0 failed → All (λ q. q ≤ m) members → All (λ q. q ≤ m) failed → All (λ q. q ≤ n) members → All (λ q. q ≤ n) failed → resolution m members failed ≡ resolution n members failed
resolution_same members failed m n left right low high low' high' =
    same_rising 0 0 (resolution m members failed) (resolution n members failed)
    (rises-filter (in_either members failed) 0 (objects m) (rises-objects m))
    (rises-filter (in_either members failed) 0 (objects n) (rises-objects n))
    (λ o. is_in-resolution members failed m o left right low high ∙ sym (is_in-resolution members failed n o left right low' high'))

filter-range_none : (p : ℕ → Bool) (a n : ℕ) → ((q : ℕ) → a ≤ q → q < a + n → p q ≡ false) → filter p (range_with_len a n) ≡ []
filter-range_none p a zero none = refl
filter-range_none p a (suc n) none =
    ap (λ t. cond t (a ∷ filter p (range_with_len (a + 1) n)) (filter p (range_with_len (a + 1) n))) (none a (omega arith) (omega arith))
    ∙ filter-range_none p (a + 1) n (λ q low high. none q (omega arith) (omega arith))

-- the next object of the set, where none is between
filter-next : (p : ℕ → Bool) (b o : ℕ) → b < o → ((q : ℕ) → b < q → q < o → p q ≡ false) → p o ≡ true → filter p (objects o) ≡ filter p (objects b) ++ o ∷ []
unfolding objects
filter-next p b o later none here =
    let gap : filter p (range_with_len (1 + b) (o - b - 1)) ≡ [] = filter-range_none p (1 + b) (o - b - 1) (λ q low high. none q (omega arith) (omega arith)) in
    let all : objects o ≡ objects b ++ (range_with_len (1 + b) (o - b - 1) ++ o ∷ []) =
    ap (range_with_len 1) (omega arith) ∙ range-append 1 b (o - b - 1 + 1) ∙ ap (λ rest. range_with_len 1 b ++ rest) (range-append (1 + b) (o - b - 1) 1 ∙ ap (λ x. range_with_len (1 + b) (o - b - 1) ++ x ∷ []) (omega arith)) in
    ap (filter p) all
    ∙ filter-append p (objects b) (range_with_len (1 + b) (o - b - 1) ++ o ∷ [])
    ∙ ap (λ rest. filter p (objects b) ++ rest) (filter-append p (range_with_len (1 + b) (o - b - 1)) (o ∷ []) ∙ ap₂ ◌++◌ gap (ap (λ t. cond t (o ∷ []) []) here))

pub resolution_next : (members failed : List ℕ) (i j b o : ℕ) → IsPassed members i (b + 1) → IsPassed failed j (b + 1) → IsPassed members i o → IsPassed failed j o → b < o → (is_in members o || is_in failed o) ≡ true → resolution o members failed ≡ resolution b members failed ++ o ∷ []
resolution_next members failed i j b o p q p' q' later here =
    filter-next (in_either members failed) b o later (λ x low high. or_from (is_in members x) (is_in failed x) (between members i b o x p p' low high) (between failed j b o x q q' low high)) here

pub resolution_none : (members failed : List ℕ) → resolution 0 members failed ≡ []
unfolding objects
resolution_none members failed = refl

pub resolution_ascends : (n : ℕ) (members failed : List ℕ) → IsAscending (resolution n members failed)
resolution_ascends n members failed =
    ascends (resolution n members failed) (rises-filter (in_either members failed) 0 (objects n) (rises-objects n))

-- no object of the resolution set is past the catalogue
pub resolution_within : (n : ℕ) (members failed : List ℕ) → All (λ o. o ≤ n) (resolution n members failed)
resolution_within n members failed = All-filter (λ o. is_in members o || is_in failed o) (λ o. o ≤ n) (objects n) (objects_within n)
