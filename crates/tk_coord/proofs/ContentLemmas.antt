-- The tests of the content of Reports and Values.
use Rattle.std.proofs.Common.{◌≡◌, ℕ, ◌<◌, ◌≤◌, ◌+◌, ◌==◌, eq-eqb, ℤ, Bool, true, false, ◌&&◌, ◌||◌, List, [], ◌∷◌, length, get_or, map, take, refl, sym, ap, ap₂, ◌∙◌, subst, inl, inr}
use Rattle.std.specs.List.{list_all, All}
use Rattle.std.proofs.lemmas.Bool.{false≢true, false_from_ne_true, or_cases, or_left, or_right, and_parts, eqb-true}
use Rattle.std.proofs.lemmas.List.{map_more}
use Rattle.tk_base.specs.Ascending.{IsAscending}
use Rattle.tk_base.specs.Objects.{objects, is_in}
use Rattle.tk_base.proofs.EqualLemmas.{numbers_tell}
use Rattle.tk_base.proofs.BoolLemmas.{bool_same}
use Rattle.tk_border.specs.Levels.{holds, least_of, lowered, resolution}
use Rattle.tk_border.proofs.LevelLemmas.{least_of-push}
use Rattle.tk_border.proofs.MembershipLemmas.{held_in, holds_from}
use Rattle.tk_border.proofs.RisingLemmas.{Rises, rises, rises-filter, rises-objects, same_rising, is_in-objects, is_in-within, is_in-positive, in_catalogue}
use Rattle.tk_border.proofs.UnionLemmas.{is_in-resolution}
use Rattle.tk_journal.specs.Refusal.{are_same}

-- two lists that differ are told apart
pub not_same : (xs ys : List ℕ) → (xs ≡ ys → ⊥) → are_same xs ys ≡ false
not_same xs ys apart = false_from_ne_true (are_same xs ys) (λ same. apart ((numbers_tell xs ys).0 same))

-- the least of one element more
pub least_next : (f : ℕ → ℤ) (xs : List ℕ) (i : ℕ) → i < length xs → least_of (map f (take (i + 1) xs)) ≡ lowered (least_of (map f (take i xs))) (f (get_or xs i 0))
least_next f xs i within = ap least_of (map_more f xs i 0 within) ∙ least_of-push (map f (take i xs)) (f (get_or xs i 0))

-- ---- the resolution set

-- a member or a failed object is in the catalogue
either_in_catalogue : (members failed : List ℕ) (n o : ℕ) → Rises 0 members → Rises 0 failed → All (λ q. q ≤ n) members → All (λ q. q ≤ n) failed → (is_in members o || is_in failed o) ≡ true
    → is_in (objects n) o ≡ true
either_in_catalogue members failed n o left right low high here = elim (or_cases (is_in members o) (is_in failed o) here) [
  | inl member ↦ is_in-objects n o ∙ in_catalogue n o (is_in-positive members o left member) (is_in-within members n o low member)
  | inr broken ↦ is_in-objects n o ∙ in_catalogue n o (is_in-positive failed o right broken) (is_in-within failed n o high broken)
]

-- a test that all of a list pass, one of them passes
passed_in : (p : ℕ → Bool) (xs : List ℕ) → list_all p xs ≡ true → (o : ℕ) → is_in xs o ≡ true → p o ≡ true
passed_in p [] all o here = absurd (false≢true here)
passed_in p (q ∷ xs) all o here =
    let both = and_parts (p q) (list_all p xs) all in
    elim (or_cases (q == o) (is_in xs o) here) [
      | inl e ↦ subst (λ x. p x ≡ true) (eqb-true q o e) both.0
      | inr later ↦ passed_in p xs both.1 o later
    ]

-- values over objects of either set, which have all of both, are over the resolution set
pub over_both : (n : ℕ) (members failed named : List ℕ) → IsAscending members → IsAscending failed → IsAscending named → All (λ q. q ≤ n) members → All (λ q. q ≤ n) failed
    → (list_all (λ o. is_in members o || is_in failed o) named && (holds named members && holds named failed)) ≡ are_same named (resolution n members failed)
over_both n members failed named left right up low high =
    let either : ℕ → Bool = λ o. is_in members o || is_in failed o in
    let in' : (o : ℕ) → is_in (resolution n members failed) o ≡ either o = λ o. is_in-resolution members failed n o (rises members left) (rises failed right) low high in
    bool_same (list_all either named && (holds named members && holds named failed)) (are_same named (resolution n members failed))
    (λ all.
    let one = and_parts (list_all either named) (holds named members && holds named failed) all in
    let two = and_parts (holds named members) (holds named failed) one.1 in
    (numbers_tell named (resolution n members failed)).1
    (same_rising 0 0 named (resolution n members failed) (rises named up) (rises-filter either 0 (objects n) (rises-objects n))
    (λ o. bool_same (is_in named o) (either o) (passed_in either named one.0 o) (λ here. elim (or_cases (is_in members o) (is_in failed o) here) [
      | inl member ↦ held_in named members two.0 o member
      | inr broken ↦ held_in named failed two.1 o broken
    ]) ∙ sym (in' o))))
    (λ same.
    let e : named ≡ resolution n members failed = (numbers_tell named (resolution n members failed)).0 same in
    let inside : (o : ℕ) → is_in named o ≡ either o = λ o. ap (λ (l : List ℕ). is_in l o) e ∙ in' o in
    ap₂ ◌&&◌ (every either named (λ o here. sym (inside o) ∙ here))
    (ap₂ ◌&&◌ (holds_from named members (λ o here. inside o ∙ or_left (is_in members o) (is_in failed o) here))
    (holds_from named failed (λ o here. inside o ∙ or_right (is_in members o) (is_in failed o) here))))
  where
    every : (p : ℕ → Bool) (xs : List ℕ) → ((o : ℕ) → is_in xs o ≡ true → p o ≡ true) → list_all p xs ≡ true
    every p [] each = refl
    every p (q ∷ xs) each = ap₂ ◌&&◌ (each q (or_left (q == q) (is_in xs q) (eq-eqb q q refl))) (every p xs (λ o here. each o (or_right (q == o) (is_in xs o) here)))
