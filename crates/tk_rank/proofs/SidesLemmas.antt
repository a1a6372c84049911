-- Changes of the two sides.
use Rattle.std.proofs.Common.{◌≡◌, ◌≢◌, ℕ, suc, ◌+◌, ◌-◌, ◌<◌, ◌≤◌, ℤ, pos, ◌+ℤ◌, ◌-ℤ◌, Bool, true, false, ◌||◌, cond, eqb, ltb, List, [], ◌∷◌, length, get_or, set, Option, Some, None, refl, sym, ap, ap₂, ◌∙◌, subst, arith, inl, inr, get_or-set_same, get_or-set_other, length-set, eq-eqb, ne_eqb, to_z, of_z}
use Rattle.std.specs.Prelude.{is_some, ◌^◌, unsigned_abs, FitsSigned, IfSome}
use Rattle.std.specs.Int.{w128}
use Rattle.std.proofs.lemmas.Int.{ints, to_z-of_z}
use Rattle.std.proofs.lemmas.Bool.{cases_eq, cases_lt, le-ltb, lt-ltb, eqb-true}
use Rattle.std.proofs.lemmas.List.{get_or-map}
use Rattle.std.proofs.lemmas.List.FromFn.{fill_by_all, length-map-range_with_len}
use Rattle.std.proofs.Math.Bool.{or-false}
use Rattle.tk_base.specs.Ascending.{IsAscending, numbers_of}
use Rattle.tk_base.specs.declared.ids.Obj.{Obj}
use Rattle.tk_base.specs.Objects.{is_in}
use Rattle.tk_base.proofs.AscendingLemmas.{ascending_once, ascending_positive}
use Rattle.tk_border.specs.Levels.{level_at, AreSmall}
use Rattle.tk_border.proofs.LevelLemmas.{small_level}
use Rattle.tk_border.proofs.PassedLemmas.{found_here}
use Rattle.tk_rank.specs.Tree.{leaf_at}
use Rattle.tk_rank.specs.Sides.{AreMemberLeaves, AreOutsiderLeaves, AreSides, AreSmallLeaves, leaf_of, read_level, levels_of}

-- ---- tests and numbers

pub passed_on : (x : ℤ) → unsigned_abs x < 2 ^ 114 → to_z w128 (of_z w128 x) ≡ x
passed_on x small = let fits : FitsSigned w128 x = omega (arith, ints) in to_z-of_z w128 x fits

pub turned : (x : ℤ) → unsigned_abs x < 2 ^ 114 → to_z w128 (of_z w128 (pos 0 -ℤ to_z w128 (of_z w128 x))) ≡ (pos 0 -ℤ x)
turned x small =
    let fits : FitsSigned w128 (pos 0 -ℤ x) = omega (arith, ints) in
    ap (λ y. to_z w128 (of_z w128 (pos 0 -ℤ y))) (passed_on x small) ∙ to_z-of_z w128 (pos 0 -ℤ x) fits

-- a leaf of the members, turned again
pub turned_back : (x y : ℤ) → unsigned_abs y < 2 ^ 114 → y ≡ (pos 0 -ℤ x) → to_z w128 (of_z w128 (pos 0 -ℤ to_z w128 (of_z w128 y))) ≡ x
turned_back x y small is = turned y small ∙ omega (arith, ints, is)

-- a sum of two numbers, where it and one of them are small
pub shifted_on : (x y : ℤ) → unsigned_abs x < 2 ^ 114 → unsigned_abs (x +ℤ y) < 2 ^ 114 → to_z w128 (of_z w128 (to_z w128 (of_z w128 x) +ℤ to_z w128 (of_z w128 y))) ≡ (x +ℤ y)
shifted_on x y small sum =
    let fits : FitsSigned w128 y = omega (arith, ints) in
    ap₂ (λ a b. to_z w128 (of_z w128 (a +ℤ b))) (passed_on x small) (to_z-of_z w128 y fits) ∙ passed_on (x +ℤ y) sum

-- a level with the sign turned moves the other way
pub turned_moves : (x y z : ℤ) → z ≡ (pos 0 -ℤ x) → unsigned_abs z < 2 ^ 114 → unsigned_abs (x +ℤ y) < 2 ^ 114 → (to_z w128 (of_z w128 z) -ℤ to_z w128 (of_z w128 y)) ≡ (pos 0 -ℤ (x +ℤ y))
turned_moves x y z is small sum =
    let fits : FitsSigned w128 y = omega (arith, ints, is) in
    ap₂ ◌-ℤ◌ (passed_on z small) (to_z-of_z w128 y fits) ∙ omega (arith, ints, is)

pub shifted_back : (x y z : ℤ) → z ≡ (pos 0 -ℤ x) → unsigned_abs z < 2 ^ 114 → unsigned_abs (x +ℤ y) < 2 ^ 114 → to_z w128 (of_z w128 (to_z w128 (of_z w128 z) -ℤ to_z w128 (of_z w128 y))) ≡ (pos 0 -ℤ (x +ℤ y))
shifted_back x y z is small sum =
    ap (λ t. to_z w128 (of_z w128 t)) (turned_moves x y z is small sum) ∙ passed_on (pos 0 -ℤ (x +ℤ y)) (omega (arith, ints, sum))

-- ---- one write

-- what stands at a place after a write at another one
pub put_at : {X : Type 0} (xs : List X) (i j : ℕ) (x d : X) → i < length xs → get_or (set xs i x) j d ≡ cond (eqb j i) x (get_or xs j d)
put_at xs i j x d within = elim (cases_eq j i) [
  | inl e ↦ rw (eq-eqb j i e) (ap (λ k. get_or (set xs i x) k d) e ∙ get_or-set_same xs i x d within)
  | inr ne ↦ rw (ne_eqb j i ne) (get_or-set_other xs i j x d (λ e. ne e))
]

-- what an object has after a write at another one's place
written : {X : Type 0} (xs : List X) (o q : ℕ) (x d : X) → 0 < o → o ≤ length xs → 0 < q → get_or (set xs (o - 1) x) (q - 1) d ≡ cond (eqb q o) x (get_or xs (q - 1) d)
written xs o q x d some within more = elim (cases_eq q o) [
  | inl e ↦ rw (eq-eqb q o e) (ap (λ k. get_or (set xs (o - 1) x) (k - 1) d) e ∙ get_or-set_same xs (o - 1) x d (omega arith))
  | inr ne ↦ rw (ne_eqb q o ne) (get_or-set_other xs (o - 1) (q - 1) x d (λ e. ne (omega arith)))
]

levels-written : (levels : List ℤ) (o q : ℕ) (x : ℤ) → 0 < o → o ≤ length levels → 0 < q → level_at (set levels (o - 1) x) q ≡ cond (eqb q o) x (level_at levels q)
levels-written levels o q x some within more = written levels o q x (pos 0) some within more

-- ---- the levels are read off the leaves

-- the leaf of a member
pub member_here : (levels : List ℤ) (members : List ℕ) (leaves : List (Option ℤ)) (place : ℕ) → place < length members → AreMemberLeaves levels members leaves → get_or leaves place None ≡ Some (pos 0 -ℤ level_at levels (get_or members place 0))
member_here levels members leaves place within s =
    s.leaf place ∙ ap (λ t. cond t (Some (pos 0 -ℤ level_at levels (get_or members place 0))) None) (lt-ltb place (length members) within)

-- the leaf of an outsider, and that there is none for a member
pub outsider_here : (levels : List ℤ) (p : ℕ → Bool) (leaves : List (Option ℤ)) (o : ℕ) → 0 < o → o ≤ length levels → AreOutsiderLeaves levels p leaves → leaf_at leaves o ≡ cond (p o) None (Some (level_at levels o))
outsider_here levels p leaves o some within s =
    s.leaf o some ∙ ap (λ t. cond (p o || t) None (Some (level_at levels o))) (le-ltb (length levels) o within) ∙ ap (λ t. cond t None (Some (level_at levels o))) (or-false (p o))

found_side : (b : Bool) (y x : ℤ) → cond b None (Some y) ≡ Some x → (b ≡ false) × (x ≡ y)
found_side true y x is = absurd (cc)
found_side false y x is = (refl, cc)

missed_side : (b : Bool) (y : ℤ) → cond b None (Some y) ≡ None → b ≡ true
missed_side true y is = refl
missed_side false y is = absurd (cc)

-- what the leaf of an object among the outsiders tells
pub outsider_found : (levels : List ℤ) (p : ℕ → Bool) (leaves : List (Option ℤ)) (o : ℕ) (x : ℤ) → 0 < o → o ≤ length levels → AreOutsiderLeaves levels p leaves → leaf_at leaves o ≡ Some x → (p o ≡ false) × (x ≡ level_at levels o)
outsider_found levels p leaves o x some within s is = found_side (p o) (level_at levels o) x (sym (outsider_here levels p leaves o some within s) ∙ is)

pub member_found : (levels : List ℤ) (p : ℕ → Bool) (leaves : List (Option ℤ)) (o : ℕ) → 0 < o → o ≤ length levels → AreOutsiderLeaves levels p leaves → leaf_at leaves o ≡ None → p o ≡ true
member_found levels p leaves o some within s is = missed_side (p o) (level_at levels o) (sym (outsider_here levels p leaves o some within s) ∙ is)

some_side : (b : Bool) (y : ℤ) → is_some (cond b None (Some y)) ≡ true → b ≡ false
some_side true y is = absurd (cc)
some_side false y is = refl

pub outsider_kept : (levels : List ℤ) (p : ℕ → Bool) (leaves : List (Option ℤ)) (o : ℕ) → 0 < o → o ≤ length levels → AreOutsiderLeaves levels p leaves → is_some (leaf_at leaves o) ≡ true → p o ≡ false
outsider_kept levels p leaves o some within s is = some_side (p o) (level_at levels o) (ap is_some (sym (outsider_here levels p leaves o some within s)) ∙ is)

leaf_of_member : (levels : List ℤ) (members : List ℕ) (leaves : List (Option ℤ)) (o : ℕ) → length members ≤ length leaves → ((i : ℕ) → i < length members → get_or leaves i None ≡ Some (pos 0 -ℤ level_at levels (get_or members i 0))) → is_in members o ≡ true → leaf_of members leaves o ≡ Some (pos 0 -ℤ level_at levels o)
leaf_of_member levels [] leaves o short is here = absurd (cc)
leaf_of_member levels (q ∷ members) [] o short is here = absurd (omega arith)
leaf_of_member levels (q ∷ members) (leaf ∷ leaves) o short is here = elim (cases_eq q o) [
  | inl e ↦
      ap (λ t. cond t leaf (leaf_of members leaves o)) (eq-eqb q o e) ∙ is 0 (omega arith) ∙ ap (λ x. Some (pos 0 -ℤ level_at levels x)) e
  | inr ne ↦
      ap (λ t. cond t leaf (leaf_of members leaves o)) (ne_eqb q o ne)
      ∙ leaf_of_member levels members leaves o (omega arith) (λ i within. is (suc i) (omega arith)) (sym (ap (λ t. t || is_in members o) (ne_eqb q o ne)) ∙ here)
]

read_side : (b : Bool) (member outsider : Option ℤ) (x : ℤ) → (b ≡ true → member ≡ Some (pos 0 -ℤ x)) → outsider ≡ cond b None (Some x) → read_level member outsider ≡ x
read_side true member outsider x here is = ap₂ read_level (here refl) is ∙ omega (arith, ints)
read_side false member outsider x here is = ap (read_level member) is

-- the leaves of an object tell its level
pub level_read : (levels : List ℤ) (members : List ℕ) (member_leaves outsider_leaves : List (Option ℤ)) (o : ℕ) → 0 < o → o ≤ length levels → AreSides levels members member_leaves outsider_leaves → read_level (leaf_of members member_leaves o) (leaf_at outsider_leaves o) ≡ level_at levels o
level_read levels members member_leaves outsider_leaves o some within s =
    read_side (is_in members o) (leaf_of members member_leaves o) (leaf_at outsider_leaves o) (level_at levels o)
    (leaf_of_member levels members member_leaves o s.members.room (λ i low. member_here levels members member_leaves i low s.members))
    (outsider_here levels (is_in members) outsider_leaves o some within s.outsiders)

pub length_levels : (n : ℕ) (members : List ℕ) (member_leaves outsider_leaves : List (Option ℤ)) → length (levels_of n members member_leaves outsider_leaves) ≡ n
length_levels n members member_leaves outsider_leaves =
    length-map-range_with_len (λ i. read_level (leaf_of members member_leaves (i + 1)) (get_or outsider_leaves i None)) 0 n

-- the two sides have the levels that are read off them
pub levels_read : (levels : List ℤ) (members : List ℕ) (member_leaves outsider_leaves : List (Option ℤ)) (n : ℕ) → length levels ≡ n → AreSides levels members member_leaves outsider_leaves → levels_of n members member_leaves outsider_leaves ≡ levels
levels_read levels members member_leaves outsider_leaves n long s =
    sym (fill_by_all (λ i. read_level (leaf_of members member_leaves (i + 1)) (get_or outsider_leaves i None)) levels n (pos 0) long
    (λ i within.
    let back : (i + 1) - 1 ≡ i = omega arith in
    subst (λ k. get_or levels k (pos 0) ≡ read_level (leaf_of members member_leaves (i + 1)) (get_or outsider_leaves k None)) back
    (sym (level_read levels members member_leaves outsider_leaves (i + 1) (omega arith) (omega arith) s))))

-- ---- the numbers in the leaves are small

if_small_else : (t : Bool) (x : ℤ) → unsigned_abs x < 2 ^ 114 → IfSome (cond t None (Some x)) (λ y. unsigned_abs y < 2 ^ 114)
if_small_else true x small = tt
if_small_else false x small = small

pub small_outsiders : (levels : List ℤ) (p : ℕ → Bool) (leaves : List (Option ℤ)) → AreSmall levels → AreOutsiderLeaves levels p leaves → AreSmallLeaves leaves
small_outsiders levels p leaves small s place =
    let back : (place + 1) - 1 ≡ place = omega arith in
    subst (λ i. IfSome (get_or leaves i None) (λ y. unsigned_abs y < 2 ^ 114)) back
    (subst (λ leaf. IfSome leaf (λ y. unsigned_abs y < 2 ^ 114)) (sym (s.leaf (place + 1) (omega arith)))
    (if_small_else (p (place + 1) || ltb (length levels) (place + 1)) (level_at levels (place + 1)) (small_level levels (place + 1) small)))

if_small_turned : (t : Bool) (x : ℤ) → unsigned_abs x < 2 ^ 114 → IfSome (cond t (Some (pos 0 -ℤ x)) None) (λ y. unsigned_abs y < 2 ^ 114)
if_small_turned true x small = omega (arith, ints, small)
if_small_turned false x small = tt

pub small_members : (levels : List ℤ) (members : List ℕ) (leaves : List (Option ℤ)) → AreSmall levels → AreMemberLeaves levels members leaves → AreSmallLeaves leaves
small_members levels members leaves small s place =
    subst (λ leaf. IfSome leaf (λ y. unsigned_abs y < 2 ^ 114)) (sym (s.leaf place))
    (if_small_turned (ltb place (length members)) (level_at levels (get_or members place 0)) (small_level levels (get_or members place 0) small))

-- an emptied leaf leaves the others small
emptied : (t : Bool) (leaf : Option ℤ) → IfSome leaf (λ y. unsigned_abs y < 2 ^ 114) → IfSome (cond t None leaf) (λ y. unsigned_abs y < 2 ^ 114)
emptied true leaf small = tt
emptied false leaf small = small

pub small_emptied : (leaves : List (Option ℤ)) (i : ℕ) → i < length leaves → AreSmallLeaves leaves → AreSmallLeaves (set leaves i None)
small_emptied leaves i within small place =
    subst (λ leaf. IfSome leaf (λ y. unsigned_abs y < 2 ^ 114)) (sym (put_at leaves i place None None within)) (emptied (eqb place i) (get_or leaves place None) (small place))

-- ---- two tests that agree give the same outsiders

pub outsiders_same_by : (levels : List ℤ) (p p' : ℕ → Bool) (leaves : List (Option ℤ)) → ((q : ℕ) → p q ≡ p' q) → AreOutsiderLeaves levels p leaves → AreOutsiderLeaves levels p' leaves
outsiders_same_by levels p p' leaves same s = record {
  room = s.room;
  leaf = λ o some. s.leaf o some ∙ ap (λ t. cond (t || ltb (length levels) o) None (Some (level_at levels o))) (same o);
}

-- ---- an object takes a side

outsider_placed : (t b r l : Bool) (x : ℤ) → (t ≡ true → l ≡ false) → cond t (cond b None (Some x)) (cond (r || l) None (Some x)) ≡ cond (cond t b r || l) None (Some x)
outsider_placed true true r l x low = refl
outsider_placed true false r l x low = rw (low refl) refl
outsider_placed false b r l x low = refl

-- the write of the level of o, seen at q
at_object : {X : Type 0} (t : Bool) (f : ℕ → X) (y : X) (q o : ℕ) → t ≡ eqb q o → cond t (f o) y ≡ cond t (f q) y
at_object true f y q o e = ap f (sym (eqb-true q o (sym e)))
at_object false f y q o e = refl

pub outsider_put : (levels : List ℤ) (p : ℕ → Bool) (leaves : List (Option ℤ)) (o : ℕ) (b : Bool) → 0 < o → o ≤ length levels → AreOutsiderLeaves levels p leaves → AreOutsiderLeaves levels (λ q. cond (eqb q o) b (p q)) (set leaves (o - 1) (cond b None (Some (level_at levels o))))
outsider_put levels p leaves o b some within s = record {
  room = omega (arith, length-set leaves (o - 1) (cond b None (Some (level_at levels o))), s.room);
  leaf = λ q more.
      written leaves o q (cond b None (Some (level_at levels o))) None some (omega (arith, s.room)) more
      ∙ at_object (eqb q o) (λ k. cond b None (Some (level_at levels k))) (leaf_at leaves q) q o refl
      ∙ ap (cond (eqb q o) (cond b None (Some (level_at levels q)))) (s.leaf q more)
      ∙ outsider_placed (eqb q o) b (p q) (ltb (length levels) q) (level_at levels q) (λ e. le-ltb (length levels) q (omega (arith, eqb-true q o e)));
}

-- ---- an object gets another level on its side

left_out : (t b : Bool) (x y : ℤ) → (t ≡ true → b ≡ true) → cond b None (Some y) ≡ cond b None (Some (cond t x y))
left_out true b x y here = rw (here refl) refl
left_out false b x y here = refl

outsider_picked : (t b : Bool) (x y : ℤ) → (t ≡ true → b ≡ false) → cond t (Some x) (cond b None (Some y)) ≡ cond b None (Some (cond t x y))
outsider_picked true b x y here = rw (here refl) refl
outsider_picked false b x y here = refl

-- the other members keep theirs
elsewhere : (levels : List ℤ) (members : List ℕ) (o i : ℕ) (x : ℤ) → (i < length members → get_or members i 0 ≢ o) → IsAscending members → 0 < o → o ≤ length levels → cond (ltb i (length members)) (Some (pos 0 -ℤ level_at levels (get_or members i 0))) None ≡ cond (ltb i (length members)) (Some (pos 0 -ℤ level_at (set levels (o - 1) x) (get_or members i 0))) None
elsewhere levels members o i x other up some within = elim (cases_lt i (length members)) [
  | inl inside ↦
      ap (λ y. cond (ltb i (length members)) (Some (pos 0 -ℤ y)) None)
      (sym (levels-written levels o (get_or members i 0) x some within (ascending_positive members up i inside) ∙ ap (λ t. cond t x (level_at levels (get_or members i 0))) (ne_eqb (get_or members i 0) o (other inside))))
  | inr past ↦ rw (le-ltb i (length members) past) refl
]

-- a member's new level at its place
member_at : (levels : List ℤ) (members : List ℕ) (leaves : List (Option ℤ)) (o place i : ℕ) (x : ℤ) → IsAscending members → 0 < o → o ≤ length levels → place < length members → get_or members place 0 ≡ o → AreMemberLeaves levels members leaves → get_or (set leaves place (Some (pos 0 -ℤ x))) i None ≡ cond (ltb i (length members)) (Some (pos 0 -ℤ level_at (set levels (o - 1) x) (get_or members i 0))) None
member_at levels members leaves o place i x up some within low at s = elim (cases_eq i place) [
  | inl e ↦
      let here : get_or members i 0 ≡ o = ap (λ k. get_or members k 0) e ∙ at in
      let new : level_at (set levels (o - 1) x) (get_or members i 0) ≡ x = ap (level_at (set levels (o - 1) x)) here ∙ levels-written levels o o x some within some ∙ ap (λ t. cond t x (level_at levels o)) (eq-eqb o o refl) in
      put_at leaves place i (Some (pos 0 -ℤ x)) None (omega (arith, s.room))
      ∙ ap (λ t. cond t (Some (pos 0 -ℤ x)) (get_or leaves i None)) (eq-eqb i place e)
      ∙ sym (ap₂ (λ t y. cond t (Some (pos 0 -ℤ y)) None) (lt-ltb i (length members) (omega arith)) new)
  | inr ne ↦
      put_at leaves place i (Some (pos 0 -ℤ x)) None (omega (arith, s.room))
      ∙ ap (λ t. cond t (Some (pos 0 -ℤ x)) (get_or leaves i None)) (ne_eqb i place ne)
      ∙ s.leaf i
      ∙ elsewhere levels members o i x (λ inside is. ne (ascending_once members up i place inside low (is ∙ sym at))) up some within
]

pub member_relevelled : (levels : List ℤ) (members : List ℕ) (m out : List (Option ℤ)) (o place : ℕ) (x : ℤ) → IsAscending members → 0 < o → o ≤ length levels → place < length members → get_or members place 0 ≡ o → AreSides levels members m out → AreSides (set levels (o - 1) x) members (set m place (Some (pos 0 -ℤ x))) out
member_relevelled levels members m out o place x up some within low at s =
    let same = length-set levels (o - 1) x in
    let here : is_in members o ≡ true = found_here members place o low at in
    record {
      members = record {
        room = omega (arith, length-set m place (Some (pos 0 -ℤ x)), s.members.room);
        leaf = λ i. member_at levels members m o place i x up some within low at s.members;
      };
      outsiders = record {
        room = omega (arith, s.outsiders.room, same);
        leaf = λ q more.
            s.outsiders.leaf q more
            ∙ left_out (eqb q o) (is_in members q || ltb (length levels) q) x (level_at levels q) (λ e. ap (λ t. t || ltb (length levels) q) (ap (is_in members) (eqb-true q o e) ∙ here))
            ∙ ap₂ (λ n y. cond (is_in members q || ltb n q) None (Some y)) (sym same) (sym (levels-written levels o q x some within more));
      };
    }

pub outsider_relevelled : (levels : List ℤ) (members : List ℕ) (m out : List (Option ℤ)) (o : ℕ) (x : ℤ) → IsAscending members → 0 < o → o ≤ length levels → is_in members o ≡ false → AreSides levels members m out → AreSides (set levels (o - 1) x) members m (set out (o - 1) (Some x))
outsider_relevelled levels members m out o x up some within here s =
    let same = length-set levels (o - 1) x in
    record {
      members = record {
        room = s.members.room;
        leaf = λ i. s.members.leaf i ∙ elsewhere levels members o i x (λ inside is. let there = found_here members i o inside is in cc) up some within;
      };
      outsiders = record {
        room = omega (arith, length-set out (o - 1) (Some x), s.outsiders.room, same);
        leaf = λ q more.
            written out o q (Some x) None some (omega (arith, s.outsiders.room)) more
            ∙ ap (cond (eqb q o) (Some x)) (s.outsiders.leaf q more)
            ∙ outsider_picked (eqb q o) (is_in members q || ltb (length levels) q) x (level_at levels q) (λ e. ap₂ ◌||◌ (ap (is_in members) (eqb-true q o e) ∙ here) (le-ltb (length levels) q (omega (arith, eqb-true q o e))))
            ∙ ap₂ (λ n y. cond (is_in members q || ltb n q) None (Some y)) (sym same) (sym (levels-written levels o q x some within more));
      };
    }

-- ---- lists of objects

pub number_at : (list : List Obj) (i : ℕ) → i < length list → get_or (numbers_of list) i 0 ≡ (get_or list i (record { 0 = 0 })).0
number_at list i within = get_or-map (λ (o : Obj). o.0) list i (record { 0 = 0 }) 0 within
