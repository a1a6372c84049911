-- What a Report or Values that passed their tests say.
use Rattle.std.proofs.Common.{◌≡◌, ℕ, suc, zero, Bool, true, false, not, ◌^◌, ◌≤◌, ◌<◌, ◌||◌, ◌&&◌, ℤ, pos, ◌+ℤ◌, ◌≤ℤ◌, unsigned_abs, List, [], ◌∷◌, map, get_or, Contains, ltb, leb, Option, Some, None, refl, sym, ap, ◌∙◌, arith}
use Rattle.std.specs.Prelude.{cond, nat_lt, int_lt, find, neg_ℤ, unwrap_or, if◌then◌else◌}
use Rattle.std.specs.List.{All}
use Rattle.std.specs.Option.{option_map}
use Rattle.std.proofs.lemmas.Int.{ints}
use Rattle.std.proofs.lemmas.Bool.{ltb-true, ltb-false, leb-true, lt-ltb, le-leb, and_parts, not-false}
use Rattle.std.proofs.lemmas.List.Elements.{All-contains}
use Rattle.std.proofs.lemmas.List.{get_or_default}
use Rattle.tk_base.specs.Objects.{objects, is_in}
use Rattle.tk_base.specs.Ascending.{IsAscending}
use Rattle.tk_base.specs.Pairs.{objects_of}
use Rattle.tk_base.proofs.EqualLemmas.{numbers_tell}
use Rattle.tk_base.proofs.OptionLemmas.{if_none}
use Rattle.tk_base.proofs.MemberLemmas.{contained_is_in, is_in_contained}
use Rattle.tk_border.specs.Levels.{resolution}
use Rattle.tk_border.proofs.RisingLemmas.{rises, is_in-filter, is_in-objects, is_in-positive}
use Rattle.tk_rows.specs.Factors.{factor_at}
use Rattle.tk_alloc.specs.Parts.{value_of}
use Rattle.tk_alloc.specs.Resolving.{CanTakePart}
use Rattle.tk_alloc.proofs.BorderLemmas.{least_covers, mapped_in}
use Rattle.tk_journal.specs.Turns.{reported}
use Rattle.tk_journal.specs.Refusal.{Known, level_in, least_in, are_outsiders, are_same, too_great, not_broken, or_else, refusal_of_border, refusal_of_report, refusal_of_values}
use Rattle.tk_journal.specs.declared.refusal.CoordRefusal.{CoordRefusal}
use Rattle.tk_journal.specs.declared.refusal.CoordRefusal.TheVariants.{WrongObjects, TooGreatValue, BadBorder}

-- ---- small steps

pub same_list : (xs ys : List ℕ) → are_same xs ys ≡ true → xs ≡ ys
same_list xs ys same = (numbers_tell xs ys).0 same

-- a fact of every element, from a fact of what the list contains
pub all_by : {X : Type 0} (P : X → Type 0) (xs : List X) → ((x : X) → Contains xs x → P x) → All P xs
all_by P xs each k d below = each (get_or xs k d) (k, below, get_or_default xs k (get_or xs k d) d below)

both_none : (a b : Option CoordRefusal) → or_else a b ≡ None → (a ≡ None) × (b ≡ None)
both_none None b none = (refl, none)
both_none (Some r) b none = cc

mapped_none : {A B : Type 0} (g : A → B) (o : Option A) → option_map g o ≡ None → o ≡ None
mapped_none g None none = refl
mapped_none g (Some x) none = cc

found_none : {A : Type 0} (test : Bool) (x : A) (rest : Option A) → cond test (Some x) rest ≡ None → (test ≡ false) × (rest ≡ None)
found_none true x rest none = cc
found_none false x rest none = (refl, none)

-- where nothing is found, nothing passes the test
pub none_found : {A : Type 0} (test : A → Bool) (xs : List A) → find test xs ≡ None → (x : A) → Contains xs x → test x ≡ false
none_found test [] none x (k, below, is) = absurd (omega (arith, below))
none_found test (y ∷ xs) none x (zero, below, is) = ap test (sym is) ∙ (found_none (test y) y (find test xs) none).0
none_found test (y ∷ xs) none x (suc k, below, is) = none_found test xs (found_none (test y) y (find test xs) none).1 x (k, omega (arith, below), is)

pub values_small : (values : List (ℕ × ℤ)) → too_great values ≡ None → All (λ p. unsigned_abs p.1 ≤ 2 ^ 100) values
values_small values none =
    all_by (λ p. unsigned_abs p.1 ≤ 2 ^ 100) values (λ p in'.
    ltb-false (2 ^ 100) (unsigned_abs p.1) (none_found (λ q. nat_lt (2 ^ 100) (unsigned_abs q.1)) values (mapped_none (λ q. TooGreatValue (record { 0 = q.0 })) (find (λ q. nat_lt (2 ^ 100) (unsigned_abs q.1)) values) none) p in'))

not_less : (a b : ℤ) → int_lt a b ≡ false → b ≤ℤ a
not_less a b e = omega (arith, ints, e)

either_none : (a b : Bool) (r : CoordRefusal) → (if a || b then Some r else None) ≡ None → (a ≡ false) × (b ≡ false)
either_none true b r none = cc
either_none false true r none = cc
either_none false false r none = (refl, refl)

-- a border that is not refused is between -2^113 and each member's level
pub border_between : (known : Known) (values : List (ℕ × ℤ)) (border : ℤ) → refusal_of_border known values border ≡ None
    → ((t : ℕ) → Contains known.members t → border ≤ℤ level_in known values t) × (pos 0 ≤ℤ (border +ℤ pos (2 ^ 113)))
border_between known values border none =
    let least = unwrap_or (least_in known values) (pos 0) in
    let both = either_none (int_lt least border) (int_lt border (neg_ℤ (pos (2 ^ 113)))) (BadBorder border least) none in
    let high = not_less least border both.0 in
    let low = not_less border (neg_ℤ (pos (2 ^ 113))) both.1 in (
      λ t in'. let covers = least_covers (map (level_in known values) known.members) (level_in known values t) (mapped_in (level_in known values) known.members t in') in omega (arith, ints, high, covers),
      omega (arith, ints, low),
    )

-- what passes can take part in a round over its objects
pub takes_part : (known : Known) (values : List (ℕ × ℤ)) (border : ℤ) (objects : List ℕ) → objects_of values ≡ objects → 0 < known.mon → known.mon ≤ known.table.monitors
    → too_great values ≡ None → refusal_of_border known values border ≡ None → CanTakePart known.table known.members objects (reported known.mon border values)
takes_part known values border objects same some within small bordered =
    let between = border_between known values border bordered in
    record {
      values = record { same = same; small = values_small values small };
      some = some;
      monitor = within;
      high = all_by (λ t. border ≤ℤ (value_of values t +ℤ factor_at known.table known.mon t)) known.members between.0;
      low = between.1;
    }

pub values_take_part : (known : Known) (asked : List ℕ) (border : ℤ) (values : List (ℕ × ℤ)) → 0 < known.mon → known.mon ≤ known.table.monitors → refusal_of_values known asked border values ≡ None
    → CanTakePart known.table known.members asked (reported known.mon border values)
values_take_part known asked border values some within none =
    let split = if_none (not (are_same (objects_of values) asked)) WrongObjects (or_else (too_great values) (refusal_of_border known values border)) none in
    let rest = both_none (too_great values) (refusal_of_border known values border) split.1 in
    takes_part known values border asked (same_list (objects_of values) asked (not-false (are_same (objects_of values) asked) split.0)) some within rest.0 rest.1

-- a Report that passes: over the members and its failed objects
pub record IsResolving (known : Known) (border : ℤ) (failed : List ℕ) (values : List (ℕ × ℤ)) : Type 0 where
  pub objects : objects_of values ≡ resolution known.objects known.members failed
  pub outsiders : are_outsiders known failed ≡ true
  pub takes : CanTakePart known.table known.members (objects_of values) (reported known.mon border values)

pub report_takes_part : (known : Known) (border : ℤ) (failed : List ℕ) (values : List (ℕ × ℤ)) → 0 < known.mon → known.mon ≤ known.table.monitors → refusal_of_report known border failed values ≡ None
    → IsResolving known border failed values
report_takes_part known border failed values some within none =
    let shape = are_outsiders known failed && are_same (objects_of values) (resolution known.objects known.members failed) in
    let split = if_none (not shape) WrongObjects (or_else (too_great values) (or_else (not_broken known values failed) (refusal_of_border known values border))) none in
    let both = and_parts (are_outsiders known failed) (are_same (objects_of values) (resolution known.objects known.members failed)) (not-false shape split.0) in
    let first = both_none (too_great values) (or_else (not_broken known values failed) (refusal_of_border known values border)) split.1 in
    let second = both_none (not_broken known values failed) (refusal_of_border known values border) first.1 in
    record {
      objects = same_list (objects_of values) (resolution known.objects known.members failed) both.1;
      outsiders = both.0;
      takes = takes_part known values border (objects_of values) refl some within first.0 second.1;
    }

-- ---- the objects of a resolution set

in_resolution : (n : ℕ) (members failed : List ℕ) (o : ℕ) → Contains (resolution n members failed) o → (0 < o) × (o ≤ n)
in_resolution n members failed o in' =
    let here : (is_in (objects n) o && (is_in members o || is_in failed o)) ≡ true = sym (is_in-filter (λ q. is_in members q || is_in failed q) (objects n) o) ∙ contained_is_in (resolution n members failed) o in' in
    let range = and_parts (is_in (objects n) o) (is_in members o || is_in failed o) here in
    let both = and_parts (ltb 0 o) (leb o n) (sym (is_in-objects n o) ∙ range.0) in
    (ltb-true 0 o both.0, leb-true o n both.1)

pub resolution_positive : (n : ℕ) (members failed : List ℕ) → All (λ o. 0 < o) (resolution n members failed)
resolution_positive n members failed = all_by (λ o. 0 < o) (resolution n members failed) (λ o in'. (in_resolution n members failed o in').0)

-- it holds the members
pub resolution_holds : (n : ℕ) (members failed : List ℕ) → IsAscending members → All (λ o. o ≤ n) members → All (Contains (resolution n members failed)) members
resolution_holds n members failed up within =
    all_by (Contains (resolution n members failed)) members (λ t in'.
    let member = contained_is_in members t in' in
    let low = is_in-positive members t (rises members up) member in
    let high = All-contains (λ o. o ≤ n) members t within in' in
    is_in_contained (resolution n members failed) t
    (is_in-filter (λ q. is_in members q || is_in failed q) (objects n) t
    ∙ ap (λ b. b && (is_in members t || is_in failed t)) (is_in-objects n t ∙ ap (λ b. b && leb t n) (lt-ltb 0 t low) ∙ le-leb t n high)
    ∙ ap (λ b. b || is_in failed t) member))
