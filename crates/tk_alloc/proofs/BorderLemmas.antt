-- The coordinator's border: its size, and what it is above and below.
use Rattle.std.proofs.Common.{◌≡◌, ℕ, suc, ◌-◌, ◌^◌, ◌<◌, ◌≤◌, ℤ, pos, ◌+ℤ◌, ◌≤ℤ◌, unsigned_abs, List, [], ◌∷◌, length, map, get_or, Contains, Option, Some, None, not, refl, sym, ap, ◌∙◌, subst, arith, inl, inr}
use Rattle.std.specs.Prelude.{unwrap_or, is_some, IsSome, ◌==◌}
use Rattle.std.specs.List.{All, fold}
use Rattle.std.specs.Int.{int_min, int_max}
use Rattle.std.proofs.lemmas.Int.{ints, fold-int_max_bounds, fold-int_max_reached, fold-int_min_bounds}
use Rattle.std.proofs.lemmas.Bool.{cases_Bool, cases_lt, and_parts, true≢false, false≢true, not-true}
use Rattle.std.proofs.lemmas.List.{length-map, get_or-map, get_or_default, get_or_past}
use Rattle.std.proofs.lemmas.List.Elements.{All-cons, All-map, All-contains}
use Rattle.tk_base.specs.Objects.{objects, is_in}
use Rattle.tk_base.specs.Pairs.{objects_of, value_at}
use Rattle.tk_base.specs.Settings.{Setup, IsWithinLimits}
use Rattle.tk_base.proofs.MemberLemmas.{contained_is_in, is_in_contained}
use Rattle.tk_border.specs.Levels.{level_at, lowered, raised, least_of, greatest_of, least_member, outside, greatest_outside}
use Rattle.tk_border.proofs.RisingLemmas.{is_in-filter}
use Rattle.tk_border.proofs.LevelLemmas.{least_reached, least_some, own_border_inside}
use Rattle.tk_rows.specs.Factors.{Grid, IsFactor, AreBalanced, factor_at}
use Rattle.tk_border.proofs.MembershipLemmas.{in_outside}
use Rattle.tk_alloc.specs.Resolving.{IsReady, own_factors, round_border}
use Rattle.tk_alloc.proofs.WideLemmas.{of_catalogue}

-- ---- the code's reading

-- whether pairs have a number under an object
pub named_is : (ps : List (ℕ × ℤ)) (o : ℕ) → is_some (value_at ps o) ≡ is_in (objects_of ps) o
named_is [] o = refl
named_is (p ∷ ps) o = elim (cases_Bool (p.0 == o)) [
  | inl here ↦ rw here refl
  | inr other ↦ rw other (named_is ps o)
]

-- the level of an object in the list of own factors is its own factor
pub own_level : (grid : Grid) (o : ℕ) → level_at (own_factors grid) o ≡ factor_at grid 0 o
own_level grid o = elim (cases_lt (o - 1) (length grid.rows)) [
  | inl within ↦ get_or-map (λ (row : List ℤ). get_or row 0 (pos 0)) grid.rows (o - 1) [] (pos 0) within
  | inr past ↦
      get_or_past (own_factors grid) (o - 1) (pos 0) (omega (arith, length-map grid.rows (λ (row : List ℤ). get_or row 0 (pos 0))))
      ∙ sym (ap (λ (row : List ℤ). get_or row 0 (pos 0)) (get_or_past grid.rows (o - 1) [] past))
]

-- every factor of a table is within its limit
pub factor_size : (grid : Grid) (n o : ℕ) → AreBalanced grid → IsFactor (factor_at grid n o)
factor_size grid n o balanced = elim (cases_lt (o - 1) (length grid.rows)) [
  | inl within ↦ (balanced (o - 1) within).small n
  | inr past ↦ subst (λ (row : List ℤ). IsFactor (get_or row n (pos 0))) (sym (get_or_past grid.rows (o - 1) [] past)) (omega arith)
]

pub level_size : (grid : Grid) (o : ℕ) → AreBalanced grid → IsFactor (level_at (own_factors grid) o)
level_size grid o balanced = subst IsFactor (sym (own_level grid o)) (factor_size grid 0 o balanced)

pub least_size : (grid : Grid) (members : List ℕ) (r : ℤ) → AreBalanced grid → least_member (own_factors grid) members ≡ Some r → IsFactor r
least_size grid members r balanced e =
    least_reached IsFactor r (map (level_at (own_factors grid)) members) (All-map IsFactor (level_at (own_factors grid)) members (λ k d within. level_size grid (get_or members k d) balanced)) e

-- ---- the least and the greatest of some numbers

greatest_folded : (x : ℤ) (xs : List ℤ) → fold raised (Some x) xs ≡ Some (fold int_max x xs)
greatest_folded x [] = refl
greatest_folded x (y ∷ xs) = greatest_folded (int_max x y) xs

least_folded : (x : ℤ) (xs : List ℤ) → fold lowered (Some x) xs ≡ Some (fold int_min x xs)
least_folded x [] = refl
least_folded x (y ∷ xs) = least_folded (int_min x y) xs

-- none is above the greatest
pub greatest_covers : (xs : List ℤ) (g z : ℤ) → greatest_of xs ≡ Some g → Contains xs z → z ≤ℤ g
unfolding greatest_of
greatest_covers [] g z e (k, within, is) = absurd (omega arith)
greatest_covers (x ∷ xs) g z e (k, within, is) =
    let same : g ≡ fold int_max x xs = let both = sym e ∙ greatest_folded x xs in cc in
    let bounds = fold-int_max_bounds x xs g same in
    All-contains (λ (y : ℤ). y ≤ℤ g) (x ∷ xs) z (All-cons (λ (y : ℤ). y ≤ℤ g) x xs bounds.0 bounds.1) (k, within, is)

-- it is one of them
pub greatest_reached : (xs : List ℤ) (g : ℤ) → greatest_of xs ≡ Some g → Contains xs g
unfolding greatest_of
greatest_reached [] g e = absurd (cc)
greatest_reached (x ∷ xs) g e =
    let same : g ≡ fold int_max x xs = let both = sym e ∙ greatest_folded x xs in cc in
    elim (fold-int_max_reached x xs g same) [
      | inl first ↦ (0, omega arith, sym first)
      | inr (k, within, is) ↦ (suc k, omega arith, is)
    ]

-- and there is one, where there are any
pub greatest_there : (xs : List ℤ) (z : ℤ) → greatest_of xs ≡ None → Contains xs z → ⊥
unfolding greatest_of
greatest_there [] z e (k, within, is) = absurd (omega arith)
greatest_there (x ∷ xs) z e found = let both = sym e ∙ greatest_folded x xs in absurd (cc)

-- none is below the least
pub least_covers : (xs : List ℤ) (z : ℤ) → Contains xs z → unwrap_or (least_of xs) (pos 0) ≤ℤ z
unfolding least_of
least_covers [] z (k, within, is) = absurd (omega arith)
least_covers (x ∷ xs) z (k, within, is) =
    let bounds = fold-int_min_bounds x xs (fold int_min x xs) refl in
    subst (λ (g : Option ℤ). unwrap_or g (pos 0) ≤ℤ z) (sym (least_folded x xs))
    (All-contains (λ (y : ℤ). fold int_min x xs ≤ℤ y) (x ∷ xs) z (All-cons (λ (y : ℤ). fold int_min x xs ≤ℤ y) x xs bounds.0 bounds.1) (k, within, is))

-- ---- lists of levels

pub mapped_in : (f : ℕ → ℤ) (xs : List ℕ) (o : ℕ) → Contains xs o → Contains (map f xs) (f o)
mapped_in f xs o (k, within, is) = (k, omega (arith, length-map xs f), get_or-map f xs k o (f o) within ∙ ap f is)

pub mapped_of : (f : ℕ → ℤ) (xs : List ℕ) (z : ℤ) → Contains (map f xs) z → (o : ℕ) × Contains xs o × (f o ≡ z)
mapped_of f xs z (k, within, is) =
    let inside : k < length xs = omega (arith, length-map xs f) in
    (get_or xs k 0, (k, inside, get_or_default xs k (get_or xs k 0) 0 inside), sym (get_or-map f xs k 0 z inside) ∙ is)

pub of_outside : (n : ℕ) (set : List ℕ) (s : ℕ) → Contains (outside n set) s → Contains (objects n) s × (Contains set s → ⊥)
of_outside n set s found =
    let both = and_parts (is_in (objects n) s) (not (is_in set s)) (sym (is_in-filter (λ o. not (is_in set o)) (objects n) s) ∙ contained_is_in (outside n set) s found) in
    (is_in_contained (objects n) s both.0, λ in'. true≢false (sym (contained_is_in set s in') ∙ not-true (is_in set s) both.1))

-- ---- the border

-- a node has as many factors of its own as the table has rows
pub factors_count : (grid : Grid) → length (own_factors grid) ≡ length grid.rows
factors_count grid = length-map grid.rows (λ (row : List ℤ). get_or row 0 (pos 0))

pub members_within : (setup : Setup) (grid : Grid) (present all : List ℕ) → IsReady setup grid present all → All (λ o. o ≤ length grid.rows) present
members_within setup grid present all ready k d within =
    let bound = All-contains (λ (o : ℕ). o ≤ setup.objects) all (get_or present k d) ready.within (ready.members k d within) in
    omega (arith, bound, ready.size.objects)

pub border_outside : (setup : Setup) (grid : Grid) (present all : List ℕ) (g : ℤ) → greatest_outside (own_factors grid) all ≡ Some g → round_border setup grid present all ≡ g
unfolding round_border
border_outside setup grid present all g e = ap (λ (x : Option ℤ). unwrap_or x (unwrap_or (least_of (map (λ t. level_at (own_factors grid) t +ℤ setup.epsilon) present)) (pos 0))) e

pub border_inside : (setup : Setup) (grid : Grid) (present all : List ℕ) (least : ℤ) → greatest_outside (own_factors grid) all ≡ None → least_member (own_factors grid) present ≡ Some least → round_border setup grid present all ≡ least +ℤ setup.epsilon
unfolding round_border
border_inside setup grid present all least none e = sym (own_border_inside (own_factors grid) present setup.epsilon least all none e)

border_at_least : (setup : Setup) (grid : Grid) (present all : List ℕ) → greatest_outside (own_factors grid) all ≡ None
    → round_border setup grid present all ≡ unwrap_or (least_of (map (λ t. level_at (own_factors grid) t +ℤ setup.epsilon) present)) (pos 0)
unfolding round_border
border_at_least setup grid present all none = ap (λ (x : Option ℤ). unwrap_or x (unwrap_or (least_of (map (λ t. level_at (own_factors grid) t +ℤ setup.epsilon) present)) (pos 0))) none

covered : (setup : Setup) (grid : Grid) (present all : List ℕ) (s : ℕ) (g : Option ℤ) → greatest_outside (own_factors grid) all ≡ g → Contains (map (level_at (own_factors grid)) (outside (length (own_factors grid)) all)) (level_at (own_factors grid) s)
    → factor_at grid 0 s ≤ℤ round_border setup grid present all
covered setup grid present all s None e here = absurd (greatest_there (map (level_at (own_factors grid)) (outside (length (own_factors grid)) all)) (level_at (own_factors grid) s) e here)
covered setup grid present all s (Some g) e here =
    let most = greatest_covers (map (level_at (own_factors grid)) (outside (length (own_factors grid)) all)) g (level_at (own_factors grid) s) e here in
    omega (arith, ints, most, own_level grid s, border_outside setup grid present all g e)

-- no own factor outside the round is above the border
pub border_covers : (setup : Setup) (grid : Grid) (present all : List ℕ) (s : ℕ) → 0 < s → s ≤ length grid.rows → (Contains all s → ⊥) → factor_at grid 0 s ≤ℤ round_border setup grid present all
border_covers setup grid present all s some within out =
    let own = own_factors grid in
    let levels = map (level_at own) (outside (length own) all) in
    let here : Contains levels (level_at own s) = mapped_in (level_at own) (outside (length own) all) s (in_outside (length own) all s some (omega (arith, factors_count grid)) out) in
    covered setup grid present all s (greatest_outside own all) refl here

-- the border is at most the own factor of a member and epsilon
below_members : (setup : Setup) (grid : Grid) (present all : List ℕ) (t : ℕ) (g : Option ℤ) → IsReady setup grid present all → greatest_outside (own_factors grid) all ≡ g → Contains present t
    → round_border setup grid present all ≤ℤ (factor_at grid 0 t +ℤ setup.epsilon)
below_members setup grid present all t None ready e in' =
    let f : ℕ → ℤ = λ o. level_at (own_factors grid) o +ℤ setup.epsilon in
    let least = least_covers (map f present) (f t) (mapped_in f present t in') in
    omega (arith, ints, least, own_level grid t, border_at_least setup grid present all e)
below_members setup grid present all t (Some g) ready e in' =
    let own = own_factors grid in
    let (s, found, is) = mapped_of (level_at own) (outside (length own) all) g (greatest_reached (map (level_at own) (outside (length own) all)) g e) in
    let (of, out) = of_outside (length own) all s found in
    let range = of_catalogue (length own) s of in
    let left : Contains present s → ⊥ = λ member. out (All-contains (Contains all) present s ready.members member) in
    let low = ready.own t s in' left range.0 (omega (arith, range.1, factors_count grid)) in
    omega (arith, ints, low, is, own_level grid s, border_outside setup grid present all g e)

pub border_below : (setup : Setup) (grid : Grid) (present all : List ℕ) (t : ℕ) → IsReady setup grid present all → Contains present t → round_border setup grid present all ≤ℤ (factor_at grid 0 t +ℤ setup.epsilon)
border_below setup grid present all t ready in' = below_members setup grid present all t (greatest_outside (own_factors grid) all) ready refl in'

-- so it is small
sized : (setup : Setup) (grid : Grid) (present all : List ℕ) (g least : Option ℤ) → IsReady setup grid present all → IsWithinLimits setup → AreBalanced grid → greatest_outside (own_factors grid) all ≡ g → least_member (own_factors grid) present ≡ least
    → unsigned_abs (round_border setup grid present all) ≤ 2 ^ 113
sized setup grid present all (Some g) least ready limits balanced e f =
    let own = own_factors grid in
    let (s, found, is) = mapped_of (level_at own) (outside (length own) all) g (greatest_reached (map (level_at own) (outside (length own) all)) g e) in
    let small : IsFactor g = subst IsFactor is (level_size grid s balanced) in
    subst (λ (z : ℤ). unsigned_abs z ≤ 2 ^ 113) (sym (border_outside setup grid present all g e)) (omega (arith, small))
sized setup grid present all None (Some least) ready limits balanced e f =
    let small : IsFactor least = least_size grid present least balanced f in
    subst (λ (z : ℤ). unsigned_abs z ≤ 2 ^ 113) (sym (border_inside setup grid present all least e f)) (omega (arith, ints, small, limits.no_debt, limits.epsilon))
sized setup grid present all None None ready limits balanced e f =
    let some : 0 < length (map (level_at (own_factors grid)) present) = omega (arith, length-map present (level_at (own_factors grid)), ready.count, limits.some_member) in
    absurd (false≢true (subst IsSome f (least_some (map (level_at (own_factors grid)) present) some)))

pub border_size : (setup : Setup) (grid : Grid) (present all : List ℕ) → IsReady setup grid present all → IsWithinLimits setup → AreBalanced grid → unsigned_abs (round_border setup grid present all) ≤ 2 ^ 113
border_size setup grid present all ready limits balanced = sized setup grid present all (greatest_outside (own_factors grid) all) (least_member (own_factors grid) present) ready limits balanced refl refl
