-- Least and greatest levels, one object more.
use Rattle.std.proofs.Common.{◌≡◌, ℕ, ◌+◌, ◌-◌, ◌<◌, ℤ, pos, ◌+ℤ◌, Bool, true, false, not, cond, List, [], ◌∷◌, ◌++◌, length, get_or, take, map, filter, Some, None, refl, sym, ap, ◌∙◌, subst, arith, lit<, inl, inr}
use Rattle.std.specs.Prelude.{IsSome, ◌^◌, unsigned_abs, int_lt}
use Rattle.std.specs.List.{fold, All}
use Rattle.std.specs.Int.{int_min}
use Rattle.std.specs.Option.{unwrap_or, option_map}
use Rattle.std.proofs.lemmas.List.{map_more, map-append, append-nil, get_or_past}
use Rattle.std.proofs.lemmas.List.Sums.{fold_push}
use Rattle.std.proofs.lemmas.List.Elements.{filter-append, All-head, All-tail, All-map}
use Rattle.std.proofs.lemmas.Bool.{cases_lt, cond_both}
use Rattle.std.proofs.lemmas.Int.{ints, clamps}
use Rattle.tk_base.specs.Ascending.{IsAscending}
use Rattle.tk_base.specs.Objects.{objects, is_in}
use Rattle.tk_border.specs.Levels.{level_at, lowered, raised, least_of, greatest_of, least_member, outside, greatest_outside, own_border, is_above, broken, AreSmall}
use Rattle.tk_border.proofs.RisingLemmas.{objects_more, ascends, rises-filter, rises-objects}

pub least_of-push : (xs : List ℤ) (y : ℤ) → least_of (xs ++ y ∷ []) ≡ lowered (least_of xs) y
unfolding least_of
least_of-push xs y = fold_push lowered None xs y

pub greatest_of-push : (xs : List ℤ) (y : ℤ) → greatest_of (xs ++ y ∷ []) ≡ raised (greatest_of xs) y
unfolding greatest_of
greatest_of-push xs y = fold_push raised None xs y

-- the least level of one member more
pub least_more : (levels : List ℤ) (members : List ℕ) (i : ℕ) → i < length members → least_of (map (level_at levels) (take (i + 1) members)) ≡ lowered (least_of (map (level_at levels) (take i members))) (level_at levels (get_or members i 0))
least_more levels members i within =
    ap least_of (map_more (level_at levels) members i 0 within)
    ∙ least_of-push (map (level_at levels) (take i members)) (level_at levels (get_or members i 0))

pub least_none : least_of [] ≡ None
unfolding least_of
least_none = refl

pub greatest_none : greatest_of [] ≡ None
unfolding greatest_of
greatest_none = refl

lowered_some : (x : ℤ) (xs : List ℤ) → IsSome (fold lowered (Some x) xs)
lowered_some x [] = refl
lowered_some x (y ∷ xs) = lowered_some (int_min x y) xs

-- some numbers have a least one
pub least_some : (xs : List ℤ) → 0 < length xs → IsSome (least_of xs)
unfolding least_of
least_some [] more = absurd (omega arith)
least_some (x ∷ xs) more = lowered_some x xs

-- one object more, in the set or outside
pub outside_more : (n : ℕ) (set : List ℕ) → outside (n + 1) set ≡ outside n set ++ cond (not (is_in set (n + 1))) ((n + 1) ∷ []) []
outside_more n set =
    ap (filter (λ o. not (is_in set o))) (objects_more n) ∙ filter-append (λ o. not (is_in set o)) (objects n) ((n + 1) ∷ [])

pub outside_met : (n : ℕ) (set : List ℕ) → is_in set (n + 1) ≡ true → outside (n + 1) set ≡ outside n set
outside_met n set here = outside_more n set ∙ rw here (simp append-nil)

pub outside_missed : (n : ℕ) (set : List ℕ) → is_in set (n + 1) ≡ false → outside (n + 1) set ≡ outside n set ++ (n + 1) ∷ []
outside_missed n set gone = outside_more n set ∙ rw gone refl

-- the greatest level of one outsider more
pub greatest_more : (levels : List ℤ) (n : ℕ) (set : List ℕ) → is_in set (n + 1) ≡ false → greatest_of (map (level_at levels) (outside (n + 1) set)) ≡ raised (greatest_of (map (level_at levels) (outside n set))) (level_at levels (n + 1))
greatest_more levels n set gone =
    ap (λ list. greatest_of (map (level_at levels) list)) (outside_missed n set gone)
    ∙ ap greatest_of (map-append (level_at levels) (outside n set) ((n + 1) ∷ []))
    ∙ greatest_of-push (map (level_at levels) (outside n set)) (level_at levels (n + 1))

min-shifted : (e x y : ℤ) → int_min (x +ℤ e) (y +ℤ e) ≡ (int_min x y +ℤ e)
min-shifted e x y = omega (arith, ints, clamps)

-- a number is added to the least of all as to each
fold-shifted : (e x : ℤ) (xs : List ℤ) → fold lowered (Some (x +ℤ e)) (map (λ y. y +ℤ e) xs) ≡ option_map (λ y. y +ℤ e) (fold lowered (Some x) xs)
fold-shifted e x [] = refl
fold-shifted e x (y ∷ xs) =
    ap (λ z. fold lowered (Some z) (map (λ q. q +ℤ e) xs)) (min-shifted e x y) ∙ fold-shifted e (int_min x y) xs

pub least-shifted : (e : ℤ) (xs : List ℤ) → least_of (map (λ y. y +ℤ e) xs) ≡ option_map (λ y. y +ℤ e) (least_of xs)
unfolding least_of
least-shifted e [] = refl
least-shifted e (x ∷ xs) = fold-shifted e x xs

-- the least of some numbers is one of them
least_folded : (P : ℤ → Type 0) (x r : ℤ) (xs : List ℤ) → P x → All P xs → fold lowered (Some x) xs ≡ Some r → P r
least_folded P x r [] here all e = let same : x ≡ r = cc in subst P same here
least_folded P x r (y ∷ xs) here all e =
    least_folded P (int_min x y) r xs (cond_both (int_lt y x) y x P (λ _. All-head P y xs all) (λ _. here)) (All-tail P y xs all) e

pub least_reached : (P : ℤ → Type 0) (r : ℤ) (xs : List ℤ) → All P xs → least_of xs ≡ Some r → P r
unfolding least_of
least_reached P r [] all e = absurd (cc)
least_reached P r (x ∷ xs) all e = least_folded P x r xs (All-head P x xs all) (All-tail P x xs all) e

-- a level is small where all are
pub small_level : (levels : List ℤ) (o : ℕ) → AreSmall levels → unsigned_abs (level_at levels o) < 2 ^ 114
small_level levels o small = elim (cases_lt (o - 1) (length levels)) [
  | inl within ↦ small (o - 1) (pos 0) within
  | inr past ↦ subst (λ x. unsigned_abs x < 2 ^ 114) (sym (get_or_past levels (o - 1) (pos 0) past)) (lit< tt)
]

pub small_least : (levels : List ℤ) (members : List ℕ) (r : ℤ) → AreSmall levels → least_member levels members ≡ Some r → unsigned_abs r < 2 ^ 114
small_least levels members r small e =
    least_reached (λ x. unsigned_abs x < 2 ^ 114) r (map (level_at levels) members)
    (All-map (λ x. unsigned_abs x < 2 ^ 114) (level_at levels) members (λ k d within. small_level levels (get_or members k d) small)) e

-- what a further test keeps of one object more
pub filter_met : (p : ℕ → Bool) (n : ℕ) (set : List ℕ) → is_in set (n + 1) ≡ true → filter p (outside (n + 1) set) ≡ filter p (outside n set)
filter_met p n set here = ap (filter p) (outside_met n set here)

pub filter_missed : (p : ℕ → Bool) (n : ℕ) (set : List ℕ) → is_in set (n + 1) ≡ false → filter p (outside (n + 1) set) ≡ filter p (outside n set) ++ cond (p (n + 1)) ((n + 1) ∷ []) []
filter_missed p n set gone = ap (filter p) (outside_missed n set gone) ∙ filter-append p (outside n set) ((n + 1) ∷ [])

pub outside_none : (set : List ℕ) → outside 0 set ≡ []
unfolding objects
outside_none set = refl

mapped_twice : (own : List ℤ) (members : List ℕ) (epsilon : ℤ) → map (λ t. level_at own t +ℤ epsilon) members ≡ map (λ y. y +ℤ epsilon) (map (level_at own) members)
mapped_twice own [] epsilon = refl
mapped_twice own (t ∷ members) epsilon = ap (λ rest. (level_at own t +ℤ epsilon) ∷ rest) (mapped_twice own members epsilon)

-- where nothing is outside, the coordinator's border is the least own factor of a member plus epsilon
pub own_border_inside : (own : List ℤ) (members : List ℕ) (epsilon x : ℤ) (set : List ℕ) → greatest_outside own set ≡ None → least_member own members ≡ Some x → (x +ℤ epsilon) ≡ own_border own members epsilon set
own_border_inside own members epsilon x set none least =
    let shifted : least_of (map (λ t. level_at own t +ℤ epsilon) members) ≡ Some (x +ℤ epsilon) =
    ap least_of (mapped_twice own members epsilon) ∙ least-shifted epsilon (map (level_at own) members) ∙ ap (option_map (λ y. y +ℤ epsilon)) least in
    sym (ap (λ g. unwrap_or g (unwrap_or (least_of (map (λ t. level_at own t +ℤ epsilon) members)) (pos 0))) none ∙ ap (λ l. unwrap_or l (pos 0)) shifted)

pub filter_kept : (p : ℕ → Bool) (n : ℕ) (set : List ℕ) → is_in set (n + 1) ≡ false → p (n + 1) ≡ true → filter p (outside (n + 1) set) ≡ filter p (outside n set) ++ (n + 1) ∷ []
filter_kept p n set gone here =
    filter_missed p n set gone ∙ ap (λ t. filter p (outside n set) ++ cond t ((n + 1) ∷ []) []) here

pub filter_left : (p : ℕ → Bool) (n : ℕ) (set : List ℕ) → is_in set (n + 1) ≡ false → p (n + 1) ≡ false → filter p (outside (n + 1) set) ≡ filter p (outside n set)
filter_left p n set gone missed =
    filter_missed p n set gone ∙ ap (λ t. filter p (outside n set) ++ cond t ((n + 1) ∷ []) []) missed ∙ append-nil (filter p (outside n set))

-- what a test keeps of the outsiders ascends
pub outsiders_ascend : (p : ℕ → Bool) (n : ℕ) (set : List ℕ) → IsAscending (filter p (outside n set))
outsiders_ascend p n set =
    ascends (filter p (outside n set)) (rises-filter p 0 (outside n set) (rises-filter (λ o. not (is_in set o)) 0 (objects n) (rises-objects n)))

pub broken_ascends : (levels : List ℤ) (members : List ℕ) → IsAscending (broken levels members)
broken_ascends levels members =
    outsiders_ascend (λ o. is_above (least_member levels members) (level_at levels o)) (length levels) members
