-- Histories: one more entry, fronts, the entry at a place, and laws by one induction.
use Rattle.std.proofs.Common.{ℕ, suc, zero, ◌<◌, List, [], ◌∷◌, ◌++◌, length, take, get_or, sym, subst, arith, append_assoc, append-nil, ◌≤◌, ap}
use Rattle.std.proofs.lemmas.List.{length-take}
use Rattle.tk_base.specs.History.{EachFrom, IsFront}

-- one entry that may come next goes behind
pub each_push : {A : Type 0} (Allows : List A → A → Type 0) (before xs : List A) (e : A) → EachFrom Allows before xs → Allows (before ++ xs) e → EachFrom Allows before (xs ++ e ∷ [])
each_push Allows before [] e each here = (subst (λ front. Allows front e) (append-nil before) here, tt)
each_push Allows before (x ∷ xs) e each here =
    (each.0, each_push Allows (before ++ x ∷ []) xs e each.1 (subst (λ front. Allows front e) (sym (append_assoc before (x ∷ []) xs)) here))

-- a front of a history is one
pub each_front : {A : Type 0} (Allows : List A → A → Type 0) (before xs ys : List A) → EachFrom Allows before (xs ++ ys) → EachFrom Allows before xs
each_front Allows before [] ys each = tt
each_front Allows before (x ∷ xs) ys each = (each.0, each_front Allows (before ++ x ∷ []) xs ys each.1)

-- a front and what goes on from it are a history
pub each_join : {A : Type 0} (Allows : List A → A → Type 0) (before xs ys : List A) → EachFrom Allows before xs → EachFrom Allows (before ++ xs) ys → EachFrom Allows before (xs ++ ys)
each_join Allows before [] ys each rest = subst (λ front. EachFrom Allows front ys) (append-nil before) rest
each_join Allows before (x ∷ xs) ys each rest =
    (each.0, each_join Allows (before ++ x ∷ []) xs ys each.1 (subst (λ front. EachFrom Allows front ys) (sym (append_assoc before (x ∷ []) xs)) rest))

-- the entry behind a front was allowed there
pub each_at : {A : Type 0} (Allows : List A → A → Type 0) (before xs : List A) (e : A) (ys : List A) → EachFrom Allows before (xs ++ e ∷ ys) → Allows (before ++ xs) e
each_at Allows before [] e ys each = subst (λ front. Allows front e) (sym (append-nil before)) each.0
each_at Allows before (x ∷ xs) e ys each =
    subst (λ front. Allows front e) (append_assoc before (x ∷ []) xs) (each_at Allows (before ++ x ∷ []) xs e ys each.1)

-- the entry at a place was allowed over those in front of it
pub each_place : {A : Type 0} (Allows : List A → A → Type 0) (before xs : List A) → EachFrom Allows before xs → (p : ℕ) (d : A) → p < length xs → Allows (before ++ take p xs) (get_or xs p d)
each_place Allows before [] each p d within = absurd (omega arith)
each_place Allows before (x ∷ xs) each zero d within = subst (λ front. Allows front x) (sym (append-nil before)) each.0
each_place Allows before (x ∷ xs) each (suc p) d within =
    subst (λ front. Allows front (get_or xs p d)) (append_assoc before (x ∷ []) (take p xs)) (each_place Allows (before ++ x ∷ []) xs each.1 p d (omega arith))

-- what holds of a front, and goes on over each entry that is allowed there, holds of the whole
pub each_carries : {A : Type 0} (Allows : List A → A → Type 0) (P : List A → Type 0) → ((front : List A) (e : A) → P front → Allows front e → P (front ++ e ∷ [])) → (before xs : List A) → P before → EachFrom Allows before xs → P (before ++ xs)
each_carries Allows P goes before [] holds each = subst P (sym (append-nil before)) holds
each_carries Allows P goes before (x ∷ xs) holds each =
    subst P (append_assoc before (x ∷ []) xs) (each_carries Allows P goes (before ++ x ∷ []) xs (goes before x holds each.0) each.1)

-- a front is no longer than what it is a front of
pub front_size : {X : Type 0} (xs ys : List X) → IsFront xs ys → length xs ≤ length ys
front_size xs ys front = omega (arith, ap length front.is, length-take (length xs) ys)
