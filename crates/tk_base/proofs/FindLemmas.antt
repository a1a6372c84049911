-- What a loop that stops early tells of a whole list.
use Rattle.std.specs.Prelude.{find, slice_get}
use Rattle.std.proofs.Common.{◌≡◌, ℕ, suc, zero, ◌<◌, Bool, true, false, List, [], ◌∷◌, get_or, Some, ap, ◌∙◌, arith, length, None, refl, ◌+◌, inl, inr}
use Rattle.std.proofs.lemmas.Bool.{cases_lt}
use Rattle.std.proofs.lemmas.Option.{get_or_from_slice_get}

-- the first element that passes
pub find_first : {X : Type 0} (p : X → Bool) (xs : List X) (i : ℕ) (c : X) → ((k : ℕ) (d : X) → k < i → p (get_or xs k d) ≡ false) → slice_get xs i ≡ Some c → p c ≡ true → find p xs ≡ Some c
find_first p [] i c before got passes = cc
find_first p (x ∷ xs) zero c before got passes =
    let is : x ≡ c = cc in
    let here : p x ≡ true = ap p is ∙ passes in
    rw here (ap Some is)
find_first p (x ∷ xs) (suc i) c before got passes =
    let first : p x ≡ false = before 0 x (omega arith) in
    rw first (find_first p xs i c (λ k d below. before (suc k) d (omega arith)) got passes)

-- no element that passes
pub find_none : {X : Type 0} (p : X → Bool) (xs : List X) → ((k : ℕ) (d : X) → k < length xs → p (get_or xs k d) ≡ false) → find p xs ≡ None
find_none p [] none = refl
find_none p (x ∷ xs) none =
    let first : p x ≡ false = none 0 x (omega arith) in
    rw first (find_none p xs (λ k d below. none (suc k) d (omega arith)))

-- one more element that does not pass
pub passed_more : {X : Type 0} (p : X → Bool) (xs : List X) (i : ℕ) (c : X) → ((k : ℕ) (d : X) → k < i → p (get_or xs k d) ≡ false) → slice_get xs i ≡ Some c → p c ≡ false → (k : ℕ) (d : X)
    → k < i + 1 → p (get_or xs k d) ≡ false
passed_more p xs i c before got fails k d below =
    elim (cases_lt k i) [
      | inl there ↦ before k d there
      | inr here ↦ let is : k ≡ i = omega arith in rw is (ap p (get_or_from_slice_get xs i c d got) ∙ fails)
    ]
