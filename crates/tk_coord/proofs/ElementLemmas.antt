-- The elements of lists, by their places.
use Rattle.std.proofs.Common.{◌≡◌, ◌≢◌, ◌⊎◌, ℕ, suc, ◌<◌, List, [], ◌∷◌, ◌++◌, length, get_or, Some, set, refl, sym, ap, ◌∙◌, subst, arith, inl, inr, get_or-set_other, get_or-set_same}
use Rattle.std.specs.Prelude.{slice_get}
use Rattle.std.specs.List.{All}
use Rattle.std.proofs.Math.Seq.{get_or-append_seam}
use Rattle.std.proofs.lemmas.Bool.{cases_eq}
use Rattle.std.proofs.lemmas.List.{length-append, length-set, get_or_append_left}
use Rattle.std.proofs.lemmas.Option.{slice_get_within, slice_get-get_or, get_or_from_slice_get}

-- lists of one length that agree at each place are the same
pub same_elements : {A : Type 0} (xs ys : List A) (d : A) → length xs ≡ length ys → ((i : ℕ) → i < length xs → get_or xs i d ≡ get_or ys i d) → xs ≡ ys
same_elements [] [] d size each = refl
same_elements [] (y ∷ ys) d size each = absurd (omega (arith, size))
same_elements (x ∷ xs) [] d size each = absurd (omega (arith, size))
same_elements (x ∷ xs) (y ∷ ys) d size each =
    ap (λ z. z ∷ xs) (each 0 (omega arith)) ∙ ap (λ zs. y ∷ zs) (same_elements xs ys d (omega (arith, size)) (λ i below. each (suc i) (omega (arith, below))))

-- an element of a list that was written over
pub read_set : {X : Type 0} (xs : List X) (i j : ℕ) (y x : X) → i < length xs → slice_get (set xs i y) j ≡ Some x → ((j ≡ i) × (x ≡ y)) ⊎ ((j ≢ i) × (slice_get xs j ≡ Some x))
read_set xs i j y x within is =
    let inside : j < length xs = (let w = slice_get_within (set xs i y) j x is in omega (arith, w, length-set xs i y)) in
    let here = sym (get_or_from_slice_get (set xs i y) j x x is) in
    elim (cases_eq j i) [
      | inl same ↦ inl (same, here ∙ ap (λ k. get_or (set xs i y) k x) same ∙ get_or-set_same xs i y x within)
      | inr other ↦ inr (other, slice_get-get_or xs j x inside ∙ ap Some (sym (get_or-set_other xs i j y x other) ∙ sym here))
    ]

-- what holds of all elements holds of each that is read
pub all_read : {X : Type 0} (P : X → Type 0) (xs : List X) (i : ℕ) (x : X) → All P xs → slice_get xs i ≡ Some x → P x
all_read P xs i x all is = subst P (get_or_from_slice_get xs i x x is) (all i x (slice_get_within xs i x is))

-- an element of a list stands in every longer one
pub slice_get-front : {X : Type 0} (xs ys : List X) (i : ℕ) (x : X) → slice_get xs i ≡ Some x → slice_get (xs ++ ys) i ≡ Some x
slice_get-front xs ys i x is =
    let within : i < length xs = slice_get_within xs i x is in
    slice_get-get_or (xs ++ ys) i x (omega (arith, length-append xs ys))
    ∙ ap Some (get_or_append_left xs ys x i within ∙ get_or_from_slice_get xs i x x is)

-- the one after the end
pub slice_get-seam : {X : Type 0} (xs : List X) (y : X) → slice_get (xs ++ y ∷ []) (length xs) ≡ Some y
slice_get-seam xs y =
    slice_get-get_or (xs ++ y ∷ []) (length xs) y (omega (arith, length-append xs (y ∷ [])))
    ∙ ap Some (get_or-append_seam xs y [] y)

-- an element within the first list is that of the first
pub slice_get-left : {X : Type 0} (xs ys : List X) (i : ℕ) → i < length xs → slice_get (xs ++ ys) i ≡ slice_get xs i
slice_get-left [] ys i within = absurd (omega arith)
slice_get-left (x ∷ xs) ys i within =
    slice_get-front (x ∷ xs) ys i (get_or (x ∷ xs) i x) (slice_get-get_or (x ∷ xs) i x within)
    ∙ sym (slice_get-get_or (x ∷ xs) i x within)
