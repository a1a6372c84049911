-- How members become outsiders, and outsiders members.
use Rattle.std.proofs.Common.{◌≡◌, ◌≢◌, ℕ, ◌+◌, ◌-◌, ◌<◌, ◌≤◌, ℤ, pos, ◌-ℤ◌, Bool, true, false, not, ◌||◌, ◌&&◌, cond, eqb, ltb, List, length, get_or, set, take, Option, Some, None, refl, sym, ap, ◌∙◌, subst, arith, inl, inr, eq-eqb, ne_eqb}
use Rattle.std.specs.List.Sorted.{IsPartitionPoint, IsPartitionedBy}
use Rattle.std.proofs.lemmas.Bool.{cases_eq, cases_lt, le-ltb, lt-ltb, ltb-true, ltb-false}
use Rattle.std.proofs.lemmas.List.{get_or-take, get_or_default, length-map, length-take}
use Rattle.std.proofs.lemmas.List.Folds.{list_any_more, list_any_none}
use Rattle.std.proofs.Math.Bool.{or-true, or-false, and-false}
use Rattle.tk_base.specs.Ascending.{IsAscending, numbers_of}
use Rattle.tk_base.specs.declared.ids.Obj.{Obj}
use Rattle.tk_base.specs.Objects.{is_in}
use Rattle.tk_base.proofs.AscendingLemmas.{ascending_along, ascending_apart}
use Rattle.tk_border.specs.Levels.{level_at, IsPassed}
use Rattle.tk_rank.specs.Tree.{leaf_at}
use Rattle.tk_rank.specs.Sides.{AreOutsiderLeaves}
use Rattle.tk_rank.proofs.SidesLemmas.{number_at, outsider_here, outsider_put, outsiders_same_by, put_at}

-- ---- the search for a member

pub parted : (list : List Obj) (o : ℕ) → IsAscending (numbers_of list) → IsPartitionedBy (λ (y : Obj). ltb y.0 o) list
parted list o up i j d before inside less =
    let n = numbers_of list in
    let long = length-map list (λ (x : Obj). x.0) in
    let rise = ascending_along n up i j before (omega (arith, long)) in
    let first : (get_or list i d).0 ≡ get_or n i 0 = ap (λ (x : Obj). x.0) (get_or_default list i d (record { 0 = 0 }) (omega arith)) ∙ sym (number_at list i (omega arith)) in
    let second : (get_or list j d).0 ≡ get_or n j 0 = ap (λ (x : Obj). x.0) (get_or_default list j d (record { 0 = 0 }) inside) ∙ sym (number_at list j inside) in
    lt-ltb (get_or list i d).0 o (let low = ltb-true (get_or list j d).0 o less in omega arith)

pub searched : (list : List Obj) (o place : ℕ) → place ≤ length list → IsPartitionPoint (λ (y : Obj). ltb y.0 o ≡ true) (λ (y : Obj). ltb y.0 o ≡ false) list place → IsPassed (numbers_of list) place o
searched list o place short halves =
    let long = length-map list (λ (x : Obj). x.0) in
    record {
      within = omega (arith, long);
      passed = λ k d above below.
          let low = ltb-true (get_or list k (record { 0 = 0 })).0 o (halves.0 k (record { 0 = 0 }) above below) in
          subst (λ x. x < o) (sym (number_at list k (omega arith)) ∙ get_or_default (numbers_of list) k 0 d (omega (arith, long))) low;
      ahead = λ k d above below.
          let high = ltb-false (get_or list k (record { 0 = 0 })).0 o (halves.1 k (record { 0 = 0 }) above (omega (arith, long))) in
          subst (λ x. o ≤ x) (sym (number_at list k (omega (arith, long))) ∙ get_or_default (numbers_of list) k 0 d below) high;
    }

-- ---- tests

in_more : (list : List ℕ) (i o q : ℕ) → i < length list → get_or list i 0 ≡ o → is_in (take (i + 1) list) q ≡ (is_in (take i list) q || eqb o q)
in_more list i o q within at =
    list_any_more (λ x. eqb x q) list i 0 within ∙ ap (λ x. is_in (take i list) q || eqb x q) at

in_more_here : (list : List ℕ) (i o q : ℕ) → i < length list → get_or list i 0 ≡ o → q ≡ o → is_in (take (i + 1) list) q ≡ true
in_more_here list i o q within at e =
    in_more list i o q within at ∙ ap (λ t. is_in (take i list) q || t) (eq-eqb o q (sym e)) ∙ or-true (is_in (take i list) q)

in_more_elsewhere : (list : List ℕ) (i o q : ℕ) → i < length list → get_or list i 0 ≡ o → q ≢ o → is_in (take (i + 1) list) q ≡ is_in (take i list) q
in_more_elsewhere list i o q within at ne =
    in_more list i o q within at ∙ ap (λ t. is_in (take i list) q || t) (ne_eqb o q (λ e. ne (sym e))) ∙ or-false (is_in (take i list) q)

-- ---- members become outsiders

-- what is still a member
abbrev pub is_left : List ℕ → ℕ → ℕ → Bool
is_left list i q = is_in list q && not (is_in (take i list) q)

left_turn : (list : List ℕ) (i o q : ℕ) → i < length list → get_or list i 0 ≡ o → cond (eqb q o) false (is_left list i q) ≡ is_left list (i + 1) q
left_turn list i o q within at = elim (cases_eq q o) [
  | inl e ↦
      ap (λ t. cond t false (is_left list i q)) (eq-eqb q o e)
      ∙ sym (ap (λ t. is_in list q && not t) (in_more_here list i o q within at e) ∙ and-false (is_in list q))
  | inr ne ↦
      ap (λ t. cond t false (is_left list i q)) (ne_eqb q o ne)
      ∙ sym (ap (λ t. is_in list q && not t) (in_more_elsewhere list i o q within at ne))
]

pub release_goes_on : (levels : List ℤ) (list : List ℕ) (leaves : List (Option ℤ)) (i o : ℕ) → i < length list → get_or list i 0 ≡ o → 0 < o → o ≤ length levels → AreOutsiderLeaves levels (is_left list i) leaves → AreOutsiderLeaves levels (is_left list (i + 1)) (set leaves (o - 1) (Some (level_at levels o)))
release_goes_on levels list leaves i o within at some low s =
    outsiders_same_by levels (λ q. cond (eqb q o) false (is_left list i q)) (is_left list (i + 1)) (set leaves (o - 1) (Some (level_at levels o)))
    (λ q. left_turn list i o q within at) (outsider_put levels (is_left list i) leaves o false some low s)

-- ---- outsiders become members

-- the first of some new members have their places
pub record AreTaken (levels : List ℤ) (new : List ℕ) (i : ℕ) (member_leaves outsider_leaves : List (Option ℤ)) : Type 0 where
  pub members : (place : ℕ) → get_or member_leaves place None ≡ cond (ltb place i) (Some (pos 0 -ℤ level_at levels (get_or new place 0))) None
  pub outsiders : AreOutsiderLeaves levels (is_in (take i new)) outsider_leaves

-- the next one is none of them
pub fresh : (new : List ℕ) (i : ℕ) → IsAscending new → i < length new → is_in (take i new) (get_or new i 0) ≡ false
fresh new i up within = list_any_none (λ q. eqb q (get_or new i 0)) (take i new) (λ k d inside.
    let before : k < i = omega (arith, length-take i new) in
    let rise = ascending_apart new up k i before within in
    let read : get_or (take i new) k d ≡ get_or new k 0 = get_or-take i new k d before ∙ get_or_default new k d 0 (omega arith) in
    ne_eqb (get_or (take i new) k d) (get_or new i 0) (λ e. omega (arith, read, e)))

seated_one : (f : ℕ → Option ℤ) (i j : ℕ) → cond (eqb j i) (f i) (cond (ltb j i) (f j) None) ≡ cond (ltb j (i + 1)) (f j) None
seated_one f i j = elim (cases_eq j i) [
  | inl e ↦ rw (eq-eqb j i e, lt-ltb j (i + 1) (omega arith)) (ap f (sym e))
  | inr ne ↦
      ap (λ t. cond t (f i) (cond (ltb j i) (f j) None)) (ne_eqb j i ne)
      ∙ elim (cases_lt j i) [
        | inl low ↦ rw (lt-ltb j i low, lt-ltb j (i + 1) (omega arith)) refl
        | inr high ↦ rw (le-ltb j i high, le-ltb j (i + 1) (omega arith)) refl
      ]
]

taken_turn : (new : List ℕ) (i o q : ℕ) → i < length new → get_or new i 0 ≡ o → cond (eqb q o) true (is_in (take i new) q) ≡ is_in (take (i + 1) new) q
taken_turn new i o q within at = elim (cases_eq q o) [
  | inl e ↦ ap (λ t. cond t true (is_in (take i new) q)) (eq-eqb q o e) ∙ sym (in_more_here new i o q within at e)
  | inr ne ↦ ap (λ t. cond t true (is_in (take i new) q)) (ne_eqb q o ne) ∙ sym (in_more_elsewhere new i o q within at ne)
]

-- the leaf of the next one among the outsiders
pub next_leaf : (levels : List ℤ) (new : List ℕ) (i o : ℕ) (m out : List (Option ℤ)) → IsAscending new → i < length new → get_or new i 0 ≡ o → 0 < o → o ≤ length levels → AreTaken levels new i m out → leaf_at out o ≡ Some (level_at levels o)
next_leaf levels new i o m out up within at some low s =
    outsider_here levels (is_in (take i new)) out o some low s.outsiders
    ∙ ap (λ t. cond t None (Some (level_at levels o))) (ap (is_in (take i new)) (sym at) ∙ fresh new i up within)

pub take_goes_on : (levels : List ℤ) (new : List ℕ) (i o : ℕ) (m out : List (Option ℤ)) → i < length new → i < length m → get_or new i 0 ≡ o → 0 < o → o ≤ length levels → AreTaken levels new i m out → AreTaken levels new (i + 1) (set m i (Some (pos 0 -ℤ level_at levels o))) (set out (o - 1) None)
take_goes_on levels new i o m out within room at some low s =
    let f = λ (place : ℕ). Some (pos 0 -ℤ level_at levels (get_or new place 0)) in
    record {
      members = λ place.
          ap (λ x. get_or (set m i (Some (pos 0 -ℤ level_at levels x))) place None) (sym at)
          ∙ put_at m i place (f i) None room
          ∙ ap (cond (eqb place i) (f i)) (s.members place)
          ∙ seated_one f i place;
      outsiders = outsiders_same_by levels (λ q. cond (eqb q o) true (is_in (take i new) q)) (is_in (take (i + 1) new)) (set out (o - 1) None)
          (λ q. taken_turn new i o q within at) (outsider_put levels (is_in (take i new)) out o true some low s.outsiders);
    }
