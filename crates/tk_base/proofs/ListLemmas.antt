-- What is known of lists and of ranges.
use Rattle.std.specs.List.{filter_map, list_any, range_with_len}
use Rattle.std.specs.Prelude.{slice_get}
use Rattle.std.proofs.Common.{ℕ, suc, List, ◌∷◌, Contains, arith, ◌≡◌, [], Option, None, refl, Some, zero, ◌+◌, ◌≤◌, ◌<◌, ◌||◌, Bool, false, ap, ◌∙◌, true, inl, inr, ◌++◌, length, take, get_or, replicate, ◌-◌, drop, sym, bytes_eq}
use Rattle.std.proofs.lemmas.Bool.{cases_eq}
use Rattle.std.proofs.Math.Bool.{or-true}
use Rattle.std.proofs.lemmas.Option.{same_Some}
use Rattle.std.proofs.lemmas.List.{length-drop}
use Rattle.std.proofs.Math.Seq.{take-length}
use Rattle.std.proofs.lemmas.Slice.Eq.{bytes_eq-Decides}

-- what a list contains, one with one more in front does
pub contained_behind : (o q : ℕ) (os : List ℕ) → Contains os q → Contains (o ∷ os) q
contained_behind o q os (k, within, is) = (suc k, omega arith, is)

-- an entry in which nothing is read gives none
pub one_none : {A X : Type 0} (read : A → Option X) (e : A) → read e ≡ None → filter_map read (e ∷ []) ≡ []
one_none {A} {X} read e is = rw is refl

-- an entry in which something is read gives it alone
pub one_some : {A X : Type 0} (read : A → Option X) (e : A) (x : X) → read e ≡ Some x → filter_map read (e ∷ []) ≡ x ∷ []
one_some read e x is = rw is refl

-- a test that none of a range passes
pub none_in_range : (p : ℕ → Bool) (b k : ℕ) → ((q : ℕ) → b ≤ q → q < b + k → p q ≡ false) → list_any p (range_with_len b k) ≡ false
none_in_range p b zero each = refl
none_in_range p b (suc k) each =
    ap (λ c. c || list_any p (range_with_len (b + 1) k)) (each b (omega arith) (omega arith))
    ∙ none_in_range p (b + 1) k (λ q low high. each q (omega (arith, low)) (omega (arith, high)))

-- a test that one of a range passes
pub any_in_range : (p : ℕ → Bool) (a k mon : ℕ) → a ≤ mon → mon < a + k → p mon ≡ true → list_any p (range_with_len a k) ≡ true
any_in_range p a zero mon low high is = absurd (omega (arith, low, high))
any_in_range p a (suc k) mon low high is =
    elim (cases_eq a mon) [
      | inl e ↦ ap (λ b. b || list_any p (range_with_len (a + 1) k)) (ap p e ∙ is)
      | inr ne ↦ ap (λ b. p a || b) (any_in_range p (a + 1) k mon (omega (arith, low, ne)) (omega (arith, high)) is) ∙ or-true (p a)
    ]

-- what stands behind a front is found at its length
pub get_behind : {A : Type 0} (xs : List A) (e : A) (rest : List A) → slice_get (xs ++ e ∷ rest) (length xs) ≡ Some e
get_behind [] e rest = refl
get_behind (x ∷ xs) e rest = get_behind xs e rest

-- a front that is one longer has the next element last
pub take_next : {A : Type 0} (xs : List A) (n : ℕ) (e : A) → slice_get xs n ≡ Some e → take (suc n) xs ≡ take n xs ++ e ∷ []
take_next [] n e at = absurd (cc)
take_next (x ∷ xs) zero e at = ap (λ y. y ∷ []) (same_Some x e at)
take_next (x ∷ xs) (suc n) e at = ap (λ ys. x ∷ ys) (take_next xs n e at)

-- there is an element at each place of a list
pub there_at : {X : Type 0} (xs : List X) (i : ℕ) → i < length xs → (x : X) × (slice_get xs i ≡ Some x)
there_at [] i within = absurd (omega (arith, within))
there_at (x ∷ xs) zero within = (x, refl)
there_at (x ∷ xs) (suc i) within = there_at xs i (omega (arith, within))

-- a list of zeros has 0 everywhere, past its end too
pub zeros : (k i : ℕ) → ◌≡◌ {A = ℕ} (get_or (replicate k 0) i 0) 0
zeros zero i = refl
zeros (suc k) zero = refl
zeros (suc k) (suc i) = zeros k i

-- all that is left of a list behind a front
pub rest_is : (xs : List ℕ) (n : ℕ) → take (length xs - n) (drop n xs) ≡ drop n xs
rest_is xs n = ap (λ (k : ℕ). take k (drop n xs)) (sym (length-drop n xs)) ∙ take-length (drop n xs)

-- texts that compare as equal are equal
pub bytes_same : (xs ys : List ℕ) → bytes_eq xs ys ≡ true → xs ≡ ys
bytes_same xs ys = (bytes_eq-Decides xs ys).0
