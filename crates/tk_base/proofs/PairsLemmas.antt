-- Pairs as lists of fields, and the number under an object.
use Rattle.std.proofs.Common.{◌≡◌, ◌≢◌, ℕ, suc, zero, ◌+◌, ◌<◌, ℤ, List, [], ◌∷◌, ◌++◌, length, map, take, get_or, Contains, Some, None, cond, refl, sym, ap, ◌∙◌, arith, eq-eqb, ne_eqb}
use Rattle.std.specs.Prelude.{slice_get}
use Rattle.std.proofs.lemmas.Option.{get_or_from_slice_get, slice_get_within}
use Rattle.std.proofs.lemmas.List.{length-map, get_or-map, take_more_same, map_push, map_more}
use Rattle.tk_base.specs.declared.ids.Obj.{Obj}
use Rattle.tk_base.specs.declared.narrow_pair.NarrowPair.{NarrowPair}
use Rattle.tk_base.specs.Ascending.{IsAscending}
use Rattle.tk_base.specs.Pairs.{pairs_of, narrow_pair_of, objects_of, value_at}
use Rattle.tk_base.proofs.AscendingLemmas.{ascending_apart}

-- the objects of the pairs are those of the fields
pub objects_of-pairs_of : (xs : List (Obj × ℤ)) → objects_of (pairs_of xs) ≡ map (λ p. p.0.0) xs
objects_of-pairs_of [] = refl
objects_of-pairs_of (x ∷ xs) = ap (λ rest. x.0.0 ∷ rest) (objects_of-pairs_of xs)

-- the same of pairs in 8 bytes
pub objects_of-narrow : (xs : List NarrowPair) → objects_of (map narrow_pair_of xs) ≡ map (λ p. p.obj.0) xs
objects_of-narrow [] = refl
objects_of-narrow (x ∷ xs) = ap (λ rest. x.obj.0 ∷ rest) (objects_of-narrow xs)

-- the object at a place of the list
pub object_at : (xs : List (Obj × ℤ)) (i : ℕ) (d : Obj × ℤ) → i < length xs → get_or (objects_of (pairs_of xs)) i 0 ≡ (get_or xs i d).0.0
object_at xs i d within = ap (λ numbers. get_or numbers i 0) (objects_of-pairs_of xs) ∙ get_or-map (λ (p : Obj × ℤ). p.0.0) xs i d 0 within

-- one pair more in 8 bytes
pub narrow_more : (narrow more : List NarrowPair) (xs : List (Obj × ℤ)) (i : ℕ) (d : Obj × ℤ) (p : NarrowPair) → i < length xs → more ≡ narrow ++ p ∷ [] → map narrow_pair_of narrow ≡ pairs_of (take i xs) → narrow_pair_of p ≡ ((get_or xs i d).0.0, (get_or xs i d).1) → map narrow_pair_of more ≡ pairs_of (take (i + 1) xs)
narrow_more narrow more xs i d p within is front last =
    ap (λ (all : List NarrowPair). map narrow_pair_of all) is ∙ map_push narrow_pair_of narrow p
    ∙ ap (λ (ps : List (ℕ × ℤ)). ps ++ narrow_pair_of p ∷ []) front
    ∙ ap (λ (q : ℕ × ℤ). pairs_of (take i xs) ++ q ∷ []) last
    ∙ sym (map_more (λ (q : Obj × ℤ). (q.0.0, q.1)) xs i d within)

-- two lists that are the same up to a place, and there, are the same behind it
pub same_one_more : (ps qs : List (ℕ × ℤ)) (i : ℕ) (p : ℕ × ℤ) → slice_get ps i ≡ Some p → slice_get qs i ≡ Some p → take i ps ≡ take i qs → take (i + 1) ps ≡ take (i + 1) qs
same_one_more ps qs i p left right front =
    take_more_same ps qs i p (slice_get_within ps i p left) (slice_get_within qs i p right) front
    (get_or_from_slice_get ps i p p left ∙ sym (get_or_from_slice_get qs i p p right))

-- the first pair with an object gives its number
first_found : (ps : List (ℕ × ℤ)) (o i : ℕ) (d : ℕ × ℤ) → i < length ps → (get_or ps i d).0 ≡ o → ((j : ℕ) → j < i → (get_or ps j d).0 ≢ o) → value_at ps o ≡ Some (get_or ps i d).1
first_found [] o i d within is before = absurd (omega arith)
first_found (p ∷ ps) o zero d within is before = ap (λ b. cond b (Some p.1) (value_at ps o)) (eq-eqb p.0 o is)
first_found (p ∷ ps) o (suc i) d within is before =
    ap (λ b. cond b (Some p.1) (value_at ps o)) (ne_eqb p.0 o (before 0 (omega arith)))
    ∙ first_found ps o i d (omega arith) is (λ j h. before (suc j) (omega arith))

-- where the objects ascend, any pair with an object gives its number
pub value_at-found : (ps : List (ℕ × ℤ)) (o i : ℕ) (d : ℕ × ℤ) → IsAscending (objects_of ps) → i < length ps → (get_or ps i d).0 ≡ o → value_at ps o ≡ Some (get_or ps i d).1
value_at-found ps o i d up within is = first_found ps o i d within is (λ j h e.
    let inside : i < length (objects_of ps) = omega (arith, length-map ps (λ (p : ℕ × ℤ). p.0)) in
    let rise = ascending_apart (objects_of ps) up j i h inside in
    let left : get_or (objects_of ps) j 0 ≡ o = get_or-map (λ (p : ℕ × ℤ). p.0) ps j d 0 (omega arith) ∙ e in
    let right : get_or (objects_of ps) i 0 ≡ o = get_or-map (λ (p : ℕ × ℤ). p.0) ps i d 0 within ∙ is in
    absurd (omega arith))

-- an object that no pair has gives none
pub value_at-absent : (ps : List (ℕ × ℤ)) (o : ℕ) → (Contains (objects_of ps) o → ⊥) → value_at ps o ≡ None
value_at-absent [] o none = refl
value_at-absent (p ∷ ps) o none =
    ap (λ b. cond b (Some p.1) (value_at ps o)) (ne_eqb p.0 o (λ e. none (0, omega arith, e)))
    ∙ value_at-absent ps o (λ (k, below, is). none (suc k, omega arith, is))

-- the pair at the place of an object gives its number
pub value_at-got : (ps : List (ℕ × ℤ)) (o i : ℕ) (p : ℕ × ℤ) → IsAscending (objects_of ps) → i < length ps → slice_get ps i ≡ Some p → get_or (objects_of ps) i 0 ≡ o → value_at ps o ≡ Some p.1
value_at-got ps o i p up within got is =
    let here : get_or ps i p ≡ p = get_or_from_slice_get ps i p p got in
    value_at-found ps o i p up within (sym (get_or-map (λ (q : ℕ × ℤ). q.0) ps i p 0 within) ∙ is)
    ∙ ap (λ (q : ℕ × ℤ). Some q.1) here

-- the objects of a list that pairs each with a number
pub objects_paired : (g : ℕ → ℤ) (xs : List ℕ) → objects_of (map (λ o. (o, g o)) xs) ≡ xs
objects_paired g [] = refl
objects_paired g (x ∷ xs) = ap (λ ys. x ∷ ys) (objects_paired g xs)
