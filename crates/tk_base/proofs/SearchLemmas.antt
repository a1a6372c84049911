-- What a binary search by the number of an element says of the list of the numbers.
use Rattle.std.proofs.Common.{◌≡◌, ℕ, ◌<◌, ◌≤◌, List, length, map, get_or, Contains, Result, Ok, Err, sym, ◌∙◌, subst, arith, inl, inr}
use Rattle.std.specs.Prelude.{IfSome, IfNone, MatchResult}
use Rattle.std.specs.Result.{result_ok}
use Rattle.std.specs.List.{HoldsAt, AllWithin}
use Rattle.std.specs.List.Sorted.{IsBinarySearchResult, IsNonDecreasingBy}
use Rattle.std.specs.Ordering.{nat_cmp, ordering_index}
use Rattle.std.specs.declared.cmp.Ordering.TheVariants.{Less, Equal, Greater}
use Rattle.std.proofs.lemmas.List.{get_or-map, length-map, get_or_default}
use Rattle.std.proofs.lemmas.List.Sorted.{searched}
use Rattle.std.proofs.lemmas.Bool.{cases_lt}
use Rattle.tk_base.specs.Ascending.{IsAscending}
use Rattle.tk_base.proofs.AscendingLemmas.{ascending_along}
use Rattle.tk_base.proofs.ListLemmas.{there_at}

mapped_at : {X : Type 0} (f : X → ℕ) (P : ℕ → Type 0) (xs : List X) (i : ℕ) → i < length xs → HoldsAt (λ y. P (f y)) xs i → HoldsAt P (map f xs) i
mapped_at f P xs i within holds d =
    let e = (there_at xs i within).0 in
    subst P (sym (get_or-map f xs i e d within)) (holds e)

mapped_within : {X : Type 0} (f : X → ℕ) (P : ℕ → Type 0) (xs : List X) (low high : ℕ) → high ≤ length xs → AllWithin (λ y. P (f y)) xs low high → AllWithin P (map f xs) low high
mapped_within f P xs low high short holds k d above below = mapped_at f P xs k (omega arith) (λ e. holds k e above below) d

unmapped_order : {X : Type 0} (f : X → ℕ) (n : ℕ → ℕ) (xs : List X) → IsNonDecreasingBy n (map f xs) → IsNonDecreasingBy (λ y. n (f y)) xs
unmapped_order f n xs up i j d before within =
    subst (λ (a : ℕ). n a ≤ n (f (get_or xs j d))) (get_or-map f xs i d 0 (omega arith))
    (subst (λ (b : ℕ). n (get_or (map f xs) i 0) ≤ n b) (get_or-map f xs j d 0 within) (up i j 0 before (omega (arith, length-map xs f))))

mapped_result : {X : Type 0} (f : X → ℕ) (xs : List X) (o : ℕ) (r : Result ℕ ℕ) → MatchResult r (λ i. i < length xs) (λ i. i ≤ length xs) → IsBinarySearchResult (λ y. nat_cmp (f y) o) xs r → IsBinarySearchResult (λ y. nat_cmp y o) (map f xs) r
mapped_result f xs o (Ok i) within found = mapped_at f (λ y. nat_cmp y o ≡ Equal) xs i within found
mapped_result f xs o (Err i) within parted = λ up.
    let halves = parted (unmapped_order f (λ y. ordering_index (nat_cmp y o)) xs up) in (
      mapped_within f (λ y. nat_cmp y o ≡ Less) xs 0 i within halves.0,
      subst (λ (n : ℕ). AllWithin (λ y. nat_cmp y o ≡ Greater) (map f xs) i n) (sym (length-map xs f))
          (mapped_within f (λ y. nat_cmp y o ≡ Greater) xs i (length xs) (omega arith) halves.1),
    )

-- a search in ascending numbers that finds no place tells that the number is not there
pub absent : {X : Type 0} (f : X → ℕ) (xs : List X) (o : ℕ) (r : Result ℕ ℕ) → IsAscending (map f xs) → MatchResult r (λ i. i < length xs) (λ i. i ≤ length xs) → IsBinarySearchResult (λ y. nat_cmp (f y) o) xs r → IfNone (result_ok r) (Contains (map f xs) o → ⊥)
absent f xs o (Ok i) up within found = tt
absent f xs o (Err i) up within parted = λ (k, below, is).
    let told = searched (map f xs) o (Err i) (mapped_result f xs o (Err i) within parted) (λ a b before inside. ascending_along (map f xs) up a b before inside) in
    let here : get_or (map f xs) k 0 ≡ o = get_or_default (map f xs) k 0 o below ∙ is in
    elim (cases_lt k i) [
      | inl lt ↦ let less = told.1 k lt in omega arith
      | inr ge ↦ let more = told.2 k ge below in omega arith
    ]

-- a place that it finds has the number
pub found : {X : Type 0} (f : X → ℕ) (xs : List X) (o : ℕ) (r : Result ℕ ℕ) → IsAscending (map f xs) → MatchResult r (λ i. i < length xs) (λ i. i ≤ length xs) → IsBinarySearchResult (λ y. nat_cmp (f y) o) xs r → IfSome (result_ok r) (λ i. get_or (map f xs) i 0 ≡ o)
found f xs o (Ok i) up within is =
    (searched (map f xs) o (Ok i) (mapped_result f xs o (Ok i) within is) (λ a b before inside. ascending_along (map f xs) up a b before inside)).1
found f xs o (Err i) up within parted = tt
