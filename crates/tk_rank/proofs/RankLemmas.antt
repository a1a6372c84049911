-- What the two sides tell of the levels and the members.
use Rattle.std.proofs.Common.{◌≡◌, ℕ, suc, ◌+◌, ◌-◌, ◌<◌, ◌≤◌, ℤ, pos, ◌-ℤ◌, Bool, true, false, not, ◌||◌, ◌&&◌, cond, ltb, leb, List, [], ◌∷◌, length, get_or, set, length-set, map, filter, Option, Some, None, refl, sym, ap, ap₂, ◌∙◌, subst, arith, inl, inr}
use Rattle.std.proofs.lemmas.List.{length-map}
use Rattle.std.specs.Prelude.{IsSome, ◌^◌, unsigned_abs}
use Rattle.std.specs.Int.{int_min, int_max}
use Rattle.std.specs.List.{fold, filter_map, cons_option, range_with_len, All}
use Rattle.std.specs.Option.{option_map}
use Rattle.std.specs.Ordering.{int_cmp, is_lt}
use Rattle.std.proofs.lemmas.Bool.{cases_lt}
use Rattle.std.proofs.lemmas.Bool.Decides.{nat_tests}
use Rattle.std.proofs.lemmas.Int.{ints, clamps}
use Rattle.std.proofs.lemmas.List.Elements.{All-head, All-tail, All-set}
use Rattle.std.proofs.Math.Bool.{and-false}
use Rattle.tk_base.specs.Ascending.{IsAscending}
use Rattle.tk_base.specs.Objects.{objects, is_in}
use Rattle.tk_border.specs.Levels.{level_at, lowered, raised, least_of, greatest_of, least_member, outside, greatest_outside, above, broken, is_above, AreMembers, AreObjects, AreSmall}
use Rattle.tk_border.proofs.LevelLemmas.{least_some, small_least, outsiders_ascend}
use Rattle.tk_border.proofs.RisingLemmas.{Rises, rises, rises-filter, rises-objects, same_rising, is_in-filter, is_in-objects, is_in-low}
use Rattle.tk_rank.proofs.GreatestLemmas.{some_over}
use Rattle.tk_rank.proofs.SidesLemmas.{levels_read}
use Rattle.tk_rank.specs.Tree.{leaf_at, standing, is_over, HasRoom, LeavesView}
use Rattle.tk_rank.specs.Sides.{outsider_leaf, levels_of, AreMemberLeaves, AreOutsiderLeaves, AreSides, IsKept}

-- ---- a filter with a map

chosen_one : {X : Type 0} (t : Bool) (x : ℕ) (f : ℕ → X) (xs : List ℕ) → cons_option (cond t (Some (f x)) None) (map f xs) ≡ map f (cond t (x ∷ xs) xs)
chosen_one true x f xs = refl
chosen_one false x f xs = refl

chosen : {X : Type 0} (g : ℕ → Option X) (p : ℕ → Bool) (f : ℕ → X) (b : ℕ) (list : List ℕ) → Rises b list → ((o : ℕ) → 0 < o → g o ≡ cond (p o) (Some (f o)) None) → filter_map g list ≡ map f (filter p list)
chosen g p f b [] up is = refl
chosen g p f b (o ∷ list) up is =
    ap₂ cons_option (is o (omega (arith, up.0))) (chosen g p f o list up.1 is) ∙ chosen_one (p o) o f (filter p list)

-- ---- the members

max_turned : (x y : ℤ) → int_max (pos 0 -ℤ x) (pos 0 -ℤ y) ≡ (pos 0 -ℤ int_min x y)
max_turned x y = omega (arith, ints, clamps)

fold-turned : (x : ℤ) (xs : List ℤ) → fold raised (Some (pos 0 -ℤ x)) (map (λ y. pos 0 -ℤ y) xs) ≡ option_map (λ y. pos 0 -ℤ y) (fold lowered (Some x) xs)
fold-turned x [] = refl
fold-turned x (y ∷ xs) =
    ap (λ z. fold raised (Some z) (map (λ q. pos 0 -ℤ q) xs)) (max_turned x y) ∙ fold-turned (int_min x y) xs

-- the greatest of the numbers with their signs turned is the least, turned
greatest-turned : (xs : List ℤ) → greatest_of (map (λ y. pos 0 -ℤ y) xs) ≡ option_map (λ y. pos 0 -ℤ y) (least_of xs)
unfolding greatest_of least_of
greatest-turned [] = refl
greatest-turned (x ∷ xs) = fold-turned x xs

mapped_twice : (levels : List ℤ) (members : List ℕ) → map (λ o. pos 0 -ℤ level_at levels o) members ≡ map (λ y. pos 0 -ℤ y) (map (level_at levels) members)
mapped_twice levels [] = refl
mapped_twice levels (o ∷ members) = ap (λ rest. (pos 0 -ℤ level_at levels o) ∷ rest) (mapped_twice levels members)

wider : (members : List ℕ) (m n : ℕ) → m ≤ n → All (λ o. o ≤ m) members → All (λ o. o ≤ n) members
wider members m n le short k d within = let low = short k d within in omega arith

-- the places of some objects, in order, give these objects
along : (g f : ℕ → ℤ) (xs : List ℕ) (a : ℕ) → ((i : ℕ) → i < length xs → f (a + i) ≡ g (get_or xs i 0)) → map f (range_with_len a (length xs)) ≡ map g xs
along g f [] a same = refl
along g f (x ∷ xs) a same =
    ap₂ (λ y rest. y ∷ rest) (ap f (omega arith) ∙ same 0 (omega arith))
    (along g f xs (a + 1) (λ i within. ap f (omega arith) ∙ same (suc i) (omega arith)))

all_along : (g f : ℕ → ℤ) (xs : List ℕ) → ((i : ℕ) → i < length xs → f (1 + i) ≡ g (get_or xs i 0)) → map f (objects (length xs)) ≡ map g xs
unfolding objects
all_along g f xs same = along g f xs 1 same

first_test : (n size o : ℕ) → n ≤ size → ((ltb 0 o && leb o size) && ltb (o - 1) n) ≡ (ltb 0 o && leb o n)
first_test n size o le = grind (arith, nat_tests)

-- the first leaves of a wider tree
first_objects : (n size : ℕ) → n ≤ size → filter (λ o. ltb (o - 1) n) (objects size) ≡ objects n
first_objects n size le =
    let q = λ (o : ℕ). ltb (o - 1) n in
    same_rising 0 0 (filter q (objects size)) (objects n) (rises-filter q 0 (objects size) (rises-objects size)) (rises-objects n)
    (λ o. is_in-filter q (objects size) o ∙ ap (λ t. t && q o) (is_in-objects size o) ∙ first_test n size o le ∙ sym (is_in-objects n o))

pub members_stand : (levels : List ℤ) (members : List ℕ) (m : List (Option ℤ)) → AreMemberLeaves levels members m → greatest_of (standing m (objects (length m))) ≡ option_map (λ y. pos 0 -ℤ y) (least_member levels members)
members_stand levels members m s =
    let size = length m in
    let n = length members in
    let f = λ (o : ℕ). (pos 0 -ℤ level_at levels (get_or members (o - 1) 0)) in
    ap greatest_of (chosen (leaf_at m) (λ o. ltb (o - 1) n) f 0 (objects size) (rises-objects size) (λ o some. s.leaf (o - 1))
    ∙ ap (map f) (first_objects n size s.room)
    ∙ all_along (λ o. pos 0 -ℤ level_at levels o) f members (λ i within. ap (λ k. pos 0 -ℤ level_at levels (get_or members k 0)) (omega arith))
    ∙ mapped_twice levels members)
    ∙ greatest-turned (map (level_at levels) members)

pub some_value : {X : Type 0} (o : Option X) → IsSome o → (x : X) × (o ≡ Some x)
some_value None there = absurd (cc)
some_value (Some x) there = (x, refl)

-- there is a least member
pub least_there : (levels : List ℤ) (members : List ℕ) (n : ℕ) → AreMembers n members → (x : ℤ) × (least_member levels members ≡ Some x)
least_there levels members n are =
    some_value (least_member levels members) (least_some (map (level_at levels) members) (omega (arith, length-map members (level_at levels), are.some_member)))

-- ---- the outsiders

turned_test : (t : Bool) (x : ℤ) → cond t None (Some x) ≡ cond (not t) (Some x) None
turned_test true x = refl
turned_test false x = refl

pub outsider_is : (levels : List ℤ) (p : ℕ → Bool) (o : ℕ) → outsider_leaf levels p o ≡ cond (not (p o || ltb (length levels) o)) (Some (level_at levels o)) None
outsider_is levels p o = turned_test (p o || ltb (length levels) o) (level_at levels o)

and_true : (a : Bool) → (a && true) ≡ a
and_true true = refl
and_true false = refl

and_false_or : (a m : Bool) → (a && not (m || true)) ≡ false
and_false_or a true = and-false a
and_false_or a false = and-false a

-- z: it is an object at all, s: it has a leaf, l: it is beyond the levels, k: it is not, m: it is a member
kept_test : (z s k l m : Bool) → l ≡ not k → (k ≡ true → s ≡ true) → ((z && s) && not (m || l)) ≡ ((z && k) && not m)
kept_test false s k l m e le = refl
kept_test true s true l true e le = and-false s
kept_test true s true l false e le = rw (e, le refl) refl
kept_test true s false l m e le = rw e (and_false_or s m)

within_size : (n size o : ℕ) → n ≤ size → leb o n ≡ true → leb o size ≡ true
within_size n size o le low = grind (arith, nat_tests)

beyond : (n o : ℕ) → ltb n o ≡ not (leb o n)
beyond n o = grind (arith, nat_tests)

-- the outsiders among the objects that have a leaf are those among the objects that have a level
pub outsiders_kept : (members : List ℕ) (n size o : ℕ) → n ≤ size → (is_in (objects size) o && not (is_in members o || ltb n o)) ≡ (is_in (objects n) o && not (is_in members o))
outsiders_kept members n size o le =
    ap (λ t. t && not (is_in members o || ltb n o)) (is_in-objects size o)
    ∙ kept_test (ltb 0 o) (leb o size) (leb o n) (ltb n o) (is_in members o) (beyond n o) (within_size n size o le)
    ∙ ap (λ t. t && not (is_in members o)) (sym (is_in-objects n o))

outsiders_same : (members : List ℕ) (n size : ℕ) → n ≤ size → filter (λ o. not (is_in members o || ltb n o)) (objects size) ≡ outside n members
outsiders_same members n size le =
    let q = λ (o : ℕ). not (is_in members o || ltb n o) in
    let r = λ (o : ℕ). not (is_in members o) in
    same_rising 0 0 (filter q (objects size)) (filter r (objects n)) (rises-filter q 0 (objects size) (rises-objects size)) (rises-filter r 0 (objects n) (rises-objects n))
    (λ o. is_in-filter q (objects size) o ∙ outsiders_kept members n size o le ∙ sym (is_in-filter r (objects n) o))

pub outsiders_stand : (levels : List ℤ) (members : List ℕ) (room : ℕ) (m : LeavesView) (o : List (Option ℤ)) → IsKept levels members room m o → greatest_of (standing o (objects (length o))) ≡ greatest_outside levels members
outsiders_stand levels members room m o kept =
    let size = length o in
    let n = length levels in
    ap greatest_of (chosen (leaf_at o) (λ q. not (is_in members q || ltb n q)) (level_at levels) 0 (objects size) (rises-objects size) (λ q some. kept.sides.outsiders.leaf q some ∙ outsider_is levels (is_in members) q)
    ∙ ap (map (level_at levels)) (outsiders_same members n size kept.sides.outsiders.room))

-- outside a set that holds the members
held_test : (m r b : Bool) → (m ≡ true → r ≡ true) → ((b && not m) && not r) ≡ (b && not r)
held_test true r b held = rw (held refl) (and-false (b && false) ∙ sym (and-false b))
held_test false r b held = ap (λ t. t && not r) (and_true b)

swap_tests : (a b c : Bool) → ((a && b) && c) ≡ ((a && c) && b)
swap_tests true true true = refl
swap_tests true true false = refl
swap_tests true false true = refl
swap_tests true false false = refl
swap_tests false b c = refl

pub outside_same : (members r : List ℕ) (n size : ℕ) → n ≤ size → ((o : ℕ) → is_in members o ≡ true → is_in r o ≡ true) → filter (λ o. not (is_in members o || ltb n o)) (outside size r) ≡ outside n r
outside_same members r n size le held =
    let q = λ (o : ℕ). not (is_in members o || ltb n o) in
    let s = λ (o : ℕ). not (is_in r o) in
    same_rising 0 0 (filter q (filter s (objects size))) (filter s (objects n)) (rises-filter q 0 (filter s (objects size)) (rises-filter s 0 (objects size) (rises-objects size))) (rises-filter s 0 (objects n) (rises-objects n))
    (λ o.
    is_in-filter q (filter s (objects size)) o
    ∙ ap (λ t. t && q o) (is_in-filter s (objects size) o)
    ∙ swap_tests (is_in (objects size) o) (s o) (q o)
    ∙ ap (λ t. t && s o) (outsiders_kept members n size o le)
    ∙ held_test (is_in members o) (is_in r o) (is_in (objects n) o) (held o)
    ∙ sym (is_in-filter s (objects n) o))

pub outside_stand : (levels : List ℤ) (members r : List ℕ) (room : ℕ) (m : LeavesView) (o : List (Option ℤ)) → IsKept levels members room m o → ((q : ℕ) → is_in members q ≡ true → is_in r q ≡ true) → greatest_of (standing o (outside (length o) r)) ≡ greatest_outside levels r
outside_stand levels members r room m o kept held =
    let size = length o in
    let n = length levels in
    let s = λ (q : ℕ). not (is_in r q) in
    ap greatest_of (chosen (leaf_at o) (λ q. not (is_in members q || ltb n q)) (level_at levels) 0 (outside size r) (rises-filter s 0 (objects size) (rises-objects size)) (λ q some. kept.sides.outsiders.leaf q some ∙ outsider_is levels (is_in members) q)
    ∙ ap (map (level_at levels)) (outside_same members r n size kept.sides.outsiders.room held))

-- ---- the outsiders above a level

over_test : (t : Bool) (x y : ℤ) → is_over x (cond t (Some y) None) ≡ (t && is_lt (int_cmp x y))
over_test true x y = refl
over_test false x y = refl

and_assoc : (a b c : Bool) → (a && (b && c)) ≡ ((a && b) && c)
and_assoc true b c = refl
and_assoc false b c = refl

above_one : (levels : List ℤ) (p : ℕ → Bool) (o : List (Option ℤ)) (x : ℤ) (q : ℕ) → AreOutsiderLeaves levels p o → (is_in (objects (length o)) q && is_over x (leaf_at o q)) ≡ ((is_in (objects (length o)) q && not (p q || ltb (length levels) q)) && is_lt (int_cmp x (level_at levels q)))
above_one levels p o x q sides = elim (cases_lt 0 q) [
  | inl some ↦
      ap (λ leaf. is_in (objects (length o)) q && is_over x leaf) (sides.leaf q some ∙ outsider_is levels p q)
      ∙ ap (λ t. is_in (objects (length o)) q && t) (over_test (not (p q || ltb (length levels) q)) x (level_at levels q))
      ∙ and_assoc (is_in (objects (length o)) q) (not (p q || ltb (length levels) q)) (is_lt (int_cmp x (level_at levels q)))
  | inr none ↦ let out : is_in (objects (length o)) q ≡ false = is_in-low 0 (objects (length o)) q (rises-objects (length o)) none in rw out refl
]

pub above_stand : (levels : List ℤ) (members : List ℕ) (room : ℕ) (m : LeavesView) (o : List (Option ℤ)) (x : ℤ) → IsKept levels members room m o → filter (λ q. is_over x (leaf_at o q)) (objects (length o)) ≡ above levels members x
above_stand levels members room m o x kept =
    let size = length o in
    let n = length levels in
    let v = λ (q : ℕ). is_lt (int_cmp x (level_at levels q)) in
    let w = λ (q : ℕ). is_over x (leaf_at o q) in
    let r = λ (q : ℕ). not (is_in members q) in
    same_rising 0 0 (filter w (objects size)) (filter v (filter r (objects n))) (rises-filter w 0 (objects size) (rises-objects size)) (rises-filter v 0 (filter r (objects n)) (rises-filter r 0 (objects n) (rises-objects n)))
    (λ q.
    is_in-filter w (objects size) q
    ∙ above_one levels (is_in members) o x q kept.sides.outsiders
    ∙ ap (λ t. t && v q) (outsiders_kept members n size q kept.sides.outsiders.room)
    ∙ ap (λ t. t && v q) (sym (is_in-filter r (objects n) q))
    ∙ sym (is_in-filter v (filter r (objects n)) q))

pub above_ascends : (levels : List ℤ) (members : List ℕ) (x : ℤ) → IsAscending (above levels members x)
above_ascends levels members x = outsiders_ascend (λ o. is_lt (int_cmp x (level_at levels o))) (length levels) members

-- a set of objects within a bound is no longer than it
rising_length : (b n : ℕ) (xs : List ℕ) → b ≤ n → Rises b xs → All (λ o. o ≤ n) xs → b + length xs ≤ n
rising_length b n [] low up all = omega arith
rising_length b n (x ∷ xs) low up all =
    let here = All-head (λ o. o ≤ n) x xs all in
    let rest = rising_length x n xs here up.1 (All-tail (λ o. o ≤ n) x xs all) in
    omega (arith, up.0)

pub short_members : (n : ℕ) (members : List ℕ) → IsAscending members → All (λ o. o ≤ n) members → length members ≤ n
short_members n members up all = let short = rising_length 0 n members (omega arith) (rises members up) all in omega arith

-- ---- what is kept

kept_set : (levels : List ℤ) (members : List ℕ) (capacity : ℕ) (m : LeavesView) (o : List (Option ℤ)) (i : ℕ) (x : ℤ) (m' : LeavesView) (o' : List (Option ℤ)) → unsigned_abs x < 2 ^ 114 → m'.room ≡ m.room → IsKept levels members capacity m o → AreSides (set levels i x) members m'.leaves o' → IsKept (set levels i x) members capacity m' o'
kept_set levels members capacity m o i x m' o' small room kept sides =
    let same = length-set levels i x in
    record {
      ranked = record {
        objects = omega (arith, same, kept.ranked.objects);
        small = All-set (λ y. unsigned_abs y < 2 ^ 114) levels i x small kept.ranked.small;
        ascends = kept.ranked.ascends;
        members = record {
          some_member = kept.ranked.members.some_member;
          in_range = wider members (length levels) (length (set levels i x)) (omega arith) kept.ranked.members.in_range;
        };
      };
      list_room = omega (arith, same, kept.list_room);
      side_room = subst (λ n. HasRoom n m'.room) (sym same) (subst (HasRoom (length levels)) (sym room) kept.side_room);
      sides = sides;
    }

-- the same of what is read off the leaves
pub read_set : (n : ℕ) (levels : List ℤ) (members : List ℕ) (capacity : ℕ) (m : LeavesView) (o : List (Option ℤ)) (i : ℕ) (x : ℤ) (m' : LeavesView) (o' : List (Option ℤ)) → length levels ≡ n → unsigned_abs x < 2 ^ 114 → m'.room ≡ m.room → IsKept levels members capacity m o → AreSides (set levels i x) members m'.leaves o' → (levels_of n members m'.leaves o' ≡ set levels i x) × IsKept (levels_of n members m'.leaves o') members capacity m' o'
read_set n levels members capacity m o i x m' o' long small room kept sides =
    let read = levels_read (set levels i x) members m'.leaves o' n (length-set levels i x ∙ long) sides in
    (read, subst (λ l. IsKept l members capacity m' o') (sym read) (kept_set levels members capacity m o i x m' o' small room kept sides))

pub read_members : (n : ℕ) (levels : List ℤ) (members : List ℕ) (capacity : ℕ) (m : LeavesView) (o : List (Option ℤ)) → length levels ≡ n → AreObjects levels → AreSmall levels → AreMembers (length levels) members → IsAscending members → length levels ≤ capacity → HasRoom (length levels) m.room → AreSides levels members m.leaves o → (levels_of n members m.leaves o ≡ levels) × IsKept (levels_of n members m.leaves o) members capacity m o
read_members n levels members capacity m o long objects small are up list_room side_room sides =
    let read = levels_read levels members m.leaves o n long sides in (
      read,
      subst (λ l. IsKept l members capacity m o) (sym read) (record {
        ranked = record { objects = objects; small = small; ascends = up; members = are };
        list_room = list_room;
        side_room = side_room;
        sides = sides;
      }),
    )

-- the least member, where its tree has it with the sign turned
pub least_from_root : (levels : List ℤ) (members : List ℕ) (room : ℕ) (m : LeavesView) (o : List (Option ℤ)) (root : Option ℤ) (r : ℤ) → IsKept levels members room m o → root ≡ greatest_of (standing m.leaves (objects (length m.leaves))) → root ≡ Some r → (least_member levels members ≡ Some (pos 0 -ℤ r)) × (unsigned_abs r < 2 ^ 114)
least_from_root levels members room m o root r kept stands is =
    let (x, least) = least_there levels members (length levels) kept.ranked.members in
    let turned : Some r ≡ Some (pos 0 -ℤ x) = sym is ∙ stands ∙ members_stand levels members m.leaves kept.sides.members ∙ ap (option_map (λ y. pos 0 -ℤ y)) least in
    let same : r ≡ pos 0 -ℤ x = cc in
    let small = small_least levels members x kept.ranked.small least in
    (least ∙ ap Some (omega (arith, ints)), omega (arith, ints))

pub root_there : (levels : List ℤ) (members : List ℕ) (room : ℕ) (m : LeavesView) (o : List (Option ℤ)) (root : Option ℤ) → IsKept levels members room m o → root ≡ greatest_of (standing m.leaves (objects (length m.leaves))) → IsSome root
root_there levels members room m o root kept stands =
    let (x, least) = least_there levels members (length levels) kept.ranked.members in
    subst IsSome (sym (stands ∙ members_stand levels members m.leaves kept.sides.members ∙ ap (option_map (λ y. pos 0 -ℤ y)) least)) refl

-- an outsider is broken where the greatest of them is above the least member
pub broken_where : (levels : List ℤ) (members : List ℕ) (x : ℤ) → least_member levels members ≡ Some x → ltb 0 (length (broken levels members)) ≡ is_over x (greatest_outside levels members)
broken_where levels members x least =
    ap (λ most. ltb 0 (length (filter (λ o. is_above most (level_at levels o)) (outside (length levels) members)))) least
    ∙ some_over x (level_at levels) (outside (length levels) members)

-- which the two roots tell
pub broken_at_roots : (levels : List ℤ) (members : List ℕ) (room : ℕ) (m : LeavesView) (o : List (Option ℤ)) (root top : Option ℤ) (x : ℤ) → IsKept levels members room m o → root ≡ greatest_of (standing m.leaves (objects (length m.leaves))) → root ≡ Some x → top ≡ greatest_of (standing o (objects (length o))) → is_over (pos 0 -ℤ x) top ≡ ltb 0 (length (broken levels members))
broken_at_roots levels members room m o root top x kept stands is greatest =
    let least = least_from_root levels members room m o root x kept stands is in
    ap (is_over (pos 0 -ℤ x)) (greatest ∙ outsiders_stand levels members room m o kept)
    ∙ sym (broken_where levels members (pos 0 -ℤ x) least.0)
