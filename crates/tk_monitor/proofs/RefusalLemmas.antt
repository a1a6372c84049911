-- The tests of a frame: what a loop that stops early, or the last of an ascending list, tells of the whole list.
use Rattle.std.proofs.Common.{◌≡◌, ℕ, suc, ◌<◌, ◌-◌, Bool, true, false, ◌&&◌, ◌||◌, List, ◌∷◌, length, get_or, Contains, ap, ◌∙◌, arith}
use Rattle.std.specs.Prelude.{nat_lt, nat_le, ◌==◌, IsTrue}
use Rattle.std.specs.List.{list_all}
use Rattle.std.proofs.lemmas.Bool.{leb-true, le-leb, lt-ltb, and_from}
use Rattle.std.proofs.lemmas.Map.Views.{exact_unsigned_eq}
use Rattle.std.proofs.lemmas.List.Sums.{AllPass-from_list_all, list_all-from_AllPass}
use Rattle.std.proofs.lemmas.List.{get_or_default}
use Rattle.tk_base.specs.Ascending.{IsAscending, ascends}
use Rattle.tk_base.specs.Objects.{is_in}
use Rattle.tk_base.proofs.AscendingLemmas.{ascending_along}
use Rattle.tk_base.proofs.BoolLemmas.{bool_same}
use Rattle.tk_border.proofs.AscendsLemmas.{ascending_passes}
use Rattle.tk_trail.specs.Refusal.{are_some_of}

and_right : (a b : Bool) → (a && b) ≡ true → b ≡ true
and_right true b both = both
and_right false b both = absurd (cc)

-- the last object tells whether all are within the catalogue
pub last_tells : (n : ℕ) (xs : List ℕ) → IsAscending xs → 0 < length xs → nat_le (get_or xs (length xs - 1) 0) n ≡ are_some_of n xs
last_tells n xs up some =
    bool_same (nat_le (get_or xs (length xs - 1) 0) n) (are_some_of n xs)
    (λ last. and_from (nat_lt 0 (length xs) && ascends xs) (list_all (λ o. nat_le o n) xs) (and_from (nat_lt 0 (length xs)) (ascends xs) (lt-ltb 0 (length xs) some) (ascending_passes xs up))
    (list_all-from_AllPass (λ o. nat_le o n) xs (λ k d within.
    let same = get_or_default xs k 0 d within in
    let below = ascending_along xs up k (length xs - 1) (omega arith) (omega arith) in
    le-leb (get_or xs k d) n (omega (arith, same, leb-true (get_or xs (length xs - 1) 0) n last)))))
    (λ all. AllPass-from_list_all (λ o. nat_le o n) xs (and_right (nat_lt 0 (length xs) && ascends xs) (list_all (λ o. nat_le o n) xs) all) (length xs - 1) 0 (omega arith))

found : (x : ℕ) (xs : List ℕ) (o : ℕ) (first : Bool) → (x == o) ≡ first → (first || is_in xs o) ≡ true → (is_in xs o ≡ true → Contains xs o) → Contains (x ∷ xs) o
found x xs o true here is later = (0, omega arith, exact_unsigned_eq x o here)
found x xs o false apart is later = let there : Contains xs o = later is in (suc there.0, omega (arith, there.1), there.2)

-- all members are in a set, or some one is not
pub all_in : (set members : List ℕ) → ((k : ℕ) → k < length members → is_in set (get_or members k 0) ≡ true) → list_all (is_in set) members ≡ true
all_in set members each = list_all-from_AllPass (is_in set) members (λ k d within. ap (is_in set) (get_or_default members k d 0 within) ∙ each k within)

-- what a test that failed rules out
pub has_not : {P : Type 0} (b : Bool) → b ≡ false → (P → IsTrue b) → P → ⊥
has_not true is tells p = absurd (cc)
has_not false is tells p = absurd (let told = tells p in cc)
