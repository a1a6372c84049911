-- Boards: what a change, an Assign and its undoing do to values and levels.
use Rattle.std.proofs.Common.{◌≡◌, ℕ, suc, zero, ◌<◌, ◌≤◌, ◌+◌, ◌-◌, ◌^◌, Bool, true, false, cond, List, [], ◌∷◌, ◌++◌, length, map, take, get_or, set, Option, Some, None, refl, sym, ap, ◌∙◌, subst, arith, inl, inr, eq-eqb, ne_eqb}
use Rattle.std.specs.Prelude.{ℤ, pos, ◌+ℤ◌, ◌-ℤ◌, unsigned_abs, slice_get, All, ◌==◌, replicate, fold, int_lt, filter, nat_lt}
use Rattle.std.specs.List.{range_with_len}
use Rattle.std.specs.Option.{option_map, option_map_or}
use Rattle.std.proofs.lemmas.Bool.{cases_eq, cases_lt, eqb-true}
use Rattle.std.proofs.lemmas.Int.{ints}
use Rattle.std.proofs.lemmas.List.{length-set, get_or-set_same, get_or-set_other, length-map, get_or-replicate, get_or_past, length-replicate, length-take-le, map-append, take_more, get_or_default}
use Rattle.std.proofs.lemmas.List.FromFn.{length-map-range_with_len, get_or-map-range_with_len}
use Rattle.tk_base.specs.Ascending.{IsAscending}
use Rattle.tk_base.specs.Objects.{objects}
use Rattle.tk_base.specs.Pairs.{value_at, objects_of}
use Rattle.tk_base.proofs.AscendingLemmas.{ascending_apart, ascending_positive}
use Rattle.tk_base.proofs.PairsLemmas.{value_at-absent}
use Rattle.tk_border.specs.Levels.{level_at, least_member, greatest_outside, greatest_of, outside, raised, AreSmall, broken, is_above}
use Rattle.tk_border.proofs.LevelLemmas.{least_none, small_level}
use Rattle.std.proofs.lemmas.List.Elements.{recursion_from_All, All-map}
use Rattle.std.specs.List.{AllByRecursion as ByRecursion}
use Rattle.tk_trail.proofs.MappedLemmas.{mapped_one, mapped_same}
use Rattle.tk_trail.proofs.BrokenLemmas.{none_kept}
use Rattle.tk_monitor.specs.Board.{AreLimited, assigned, assigned_level, values_in}
use Rattle.tk_monitor.specs.Factors.{factor_in, factors_over}
use Rattle.tk_monitor.proofs.FactorsLemmas.{got_within, got_all, take_got}

-- one place of a list written
level_set : (xs : List ℤ) (i o : ℕ) (v : ℤ) (P : ℤ → Type 0) → i < length xs → P v → P (level_at xs o) → P (level_at (set xs i v) o)
level_set xs i o v P within new old =
    elim (cases_eq (o - 1) i) [
      | inl same ↦ subst P (sym (ap (λ k. get_or (set xs i v) k (pos 0)) same ∙ get_or-set_same xs i v (pos 0) within)) new
      | inr apart ↦ subst P (sym (get_or-set_other xs i (o - 1) v (pos 0) apart)) old
    ]

-- value and level of an object change
pub limits_set : (values levels : List ℤ) (i : ℕ) (value level : ℤ) → AreLimited values levels → i < length levels → unsigned_abs value ≤ 2 ^ 100 → unsigned_abs (level -ℤ value) ≤ 2 ^ 112 → AreLimited (set values i value) (set levels i level)
limits_set values levels i value level is within small factor = record {
  shape = length-set values i value ∙ is.shape ∙ sym (length-set levels i level);
  few = omega (arith, length-set levels i level, is.few);
  value_size = λ o. level_set values i o value (λ z. unsigned_abs z ≤ 2 ^ 100) (omega (arith, is.shape)) small (is.value_size o);
  factor_size = λ o.
      elim (cases_eq (o - 1) i) [
        | inl same ↦
            let v : level_at (set values i value) o ≡ value = ap (λ k. get_or (set values i value) k (pos 0)) same ∙ get_or-set_same values i value (pos 0) (omega (arith, is.shape)) in
            let l : level_at (set levels i level) o ≡ level = ap (λ k. get_or (set levels i level) k (pos 0)) same ∙ get_or-set_same levels i level (pos 0) within in
            rw (v, l) factor
        | inr apart ↦
            let v : level_at (set values i value) o ≡ level_at values o = get_or-set_other values i (o - 1) value (pos 0) apart in
            let l : level_at (set levels i level) o ≡ level_at levels o = get_or-set_other levels i (o - 1) level (pos 0) apart in
            rw (v, l) (is.factor_size o)
      ];
}

-- the level of an object alone changes
pub limits_level : (values levels : List ℤ) (i : ℕ) (level : ℤ) → AreLimited values levels → i < length levels → unsigned_abs (level -ℤ get_or values i (pos 0)) ≤ 2 ^ 112 → AreLimited values (set levels i level)
limits_level values levels i level is within factor = record {
  shape = is.shape ∙ sym (length-set levels i level);
  few = omega (arith, length-set levels i level, is.few);
  value_size = is.value_size;
  factor_size = λ o.
      elim (cases_eq (o - 1) i) [
        | inl same ↦
            let v : level_at values o ≡ get_or values i (pos 0) = ap (λ k. get_or values k (pos 0)) same in
            let l : level_at (set levels i level) o ≡ level = ap (λ k. get_or (set levels i level) k (pos 0)) same ∙ get_or-set_same levels i level (pos 0) within in
            rw (v, l) factor
        | inr apart ↦
            let l : level_at (set levels i level) o ≡ level_at levels o = get_or-set_other levels i (o - 1) level (pos 0) apart in
            rw l (is.factor_size o)
      ];
}

-- a board of zeros
zero_level : (n o : ℕ) → level_at (replicate n (pos 0)) o ≡ pos 0
zero_level n o =
    elim (cases_lt (o - 1) n) [
      | inl within ↦ get_or-replicate n (o - 1) (pos 0) (pos 0) within
      | inr past ↦ get_or_past (replicate n (pos 0)) (o - 1) (pos 0) (omega (arith, length-replicate n (pos 0)))
    ]

pub limits_zero : (n : ℕ) → n ≤ 65536 → AreLimited (replicate n (pos 0)) (replicate n (pos 0))
limits_zero n few = record {
  shape = refl;
  few = omega (arith, length-replicate n (pos 0));
  value_size = λ o. rw (zero_level n o) (omega (arith, ints));
  factor_size = λ o. rw (zero_level n o) (omega (arith, ints));
}

-- two lists with the same numbers at each place
pub from_places : (xs ys : List ℤ) → length xs ≡ length ys → ((i : ℕ) → i < length xs → get_or xs i (pos 0) ≡ get_or ys i (pos 0)) → xs ≡ ys
from_places [] [] shape same = refl
from_places [] (y ∷ ys) shape same = absurd (omega arith)
from_places (x ∷ xs) [] shape same = absurd (omega arith)
from_places (x ∷ xs) (y ∷ ys) shape same =
    let first : x ≡ y = same 0 (omega arith) in
    let rest : xs ≡ ys = from_places xs ys (omega arith) (λ i within. same (suc i) (omega arith)) in
    cc

-- the list of all levels
pub all_levels : (xs : List ℤ) (n : ℕ) → length xs ≡ n → map (level_at xs) (objects n) ≡ xs
unfolding objects
all_levels xs n is = from_places (map (level_at xs) (range_with_len 1 n)) xs (length-map-range_with_len (level_at xs) 1 n ∙ sym is)
    (λ i within. get_or-map-range_with_len (level_at xs) 1 n i (i + 1) (pos 0) (omega (arith, length-map-range_with_len (level_at xs) 1 n)) (omega arith) ∙ ap (λ k. get_or xs k (pos 0)) (let e : i + 1 - 1 ≡ i = omega arith in e))

-- no change, no new level
pub assigned_none : (values levels : List ℤ) → assigned values levels [] ≡ levels
unfolding assigned
assigned_none values levels = all_levels levels (length levels) refl

pub length-assigned : (values levels : List ℤ) (changes : List (ℕ × ℤ)) → length (assigned values levels changes) ≡ length levels
unfolding assigned objects
length-assigned values levels changes = length-map-range_with_len (assigned_level values levels changes) 1 (length levels)

-- the number under an object, with one more pair behind
value_at-other : (ps : List (ℕ × ℤ)) (p : ℕ × ℤ) (q : ℕ) → (q ≡ p.0 → ⊥) → value_at (ps ++ p ∷ []) q ≡ value_at ps q
value_at-other [] p q apart = ap (λ b. cond b (Some p.1) None) (ne_eqb p.0 q (λ is. apart (sym is)))
value_at-other (x ∷ ps) p q apart = ap (λ rest. cond (x.0 == q) (Some x.1) rest) (value_at-other ps p q apart)

own_next : (b : Bool) (y : ℤ) (r s : Option ℤ) (v : ℤ) → cond b (Some y) r ≡ None → (r ≡ None → s ≡ Some v) → cond b (Some y) s ≡ Some v
own_next true y r s v none rest = absurd (cc)
own_next false y r s v none rest = rest none

value_at-own : (ps : List (ℕ × ℤ)) (p : ℕ × ℤ) → value_at ps p.0 ≡ None → value_at (ps ++ p ∷ []) p.0 ≡ Some p.1
value_at-own [] p none = ap (λ b. cond b (Some p.1) None) (eq-eqb p.0 p.0 refl)
value_at-own (x ∷ ps) p none = own_next (x.0 == p.0) x.1 (value_at ps p.0) (value_at (ps ++ p ∷ []) p.0) p.1 none (value_at-own ps p)

-- in an ascending list an object is not among those in front of it
taken_of : (changes : List (ℕ × ℤ)) (i k : ℕ) → k < i → i < length changes → get_or (objects_of (take i changes)) k 0 ≡ get_or (objects_of changes) k 0
taken_of changes zero k below within = absurd (omega arith)
taken_of [] (suc i) k below within = absurd (omega arith)
taken_of (c ∷ changes) (suc i) zero below within = refl
taken_of (c ∷ changes) (suc i) (suc k) below within = taken_of changes i k (omega arith) (omega arith)

got_object : (changes : List (ℕ × ℤ)) (i : ℕ) (c : ℕ × ℤ) → slice_get changes i ≡ Some c → get_or (objects_of changes) i 0 ≡ c.0
got_object [] i c got = cc
got_object (x ∷ xs) zero c got = let is : x ≡ c = cc in ap (λ (p : ℕ × ℤ). p.0) is
got_object (x ∷ xs) (suc i) c got = got_object xs i c got

not_before : (changes : List (ℕ × ℤ)) (i : ℕ) (c : ℕ × ℤ) → IsAscending (objects_of changes) → slice_get changes i ≡ Some c → value_at (take i changes) c.0 ≡ None
not_before changes i c up got =
    let within = got_within changes i c got in
    value_at-absent (take i changes) c.0 (λ (k, there, is).
    let short : length (objects_of (take i changes)) ≡ i = length-map (take i changes) (λ (p : ℕ × ℤ). p.0) ∙ length-take-le i changes (omega (arith, within)) in
    let below : k < i = omega (arith, there, short) in
    let apart = ascending_apart (objects_of changes) up k i below (omega (arith, length-map changes (λ (p : ℕ × ℤ). p.0), within)) in
    let same : get_or (objects_of (take i changes)) k 0 ≡ c.0 = get_or_default (objects_of (take i changes)) k 0 c.0 there ∙ is in
    omega (arith, apart, got_object changes i c got, taken_of changes i k below within, same))

-- one more change sets one level
pub assigned_more : (values levels : List ℤ) (changes : List (ℕ × ℤ)) (i : ℕ) (c : ℕ × ℤ) → IsAscending (objects_of changes) → slice_get changes i ≡ Some c → 1 ≤ c.0 → c.0 ≤ length levels → set (assigned values levels (take i changes)) (c.0 - 1) (level_at values c.0 +ℤ c.1) ≡ assigned values levels (take (i + 1) changes)
unfolding assigned objects
assigned_more values levels changes i c up got low high =
    let more : take (i + 1) changes ≡ take i changes ++ c ∷ [] = ap (λ n. take n changes) (let e : i + 1 ≡ suc i = omega arith in e) ∙ take_got changes i c got in
    let own : assigned_level values levels (take (i + 1) changes) c.0 ≡ level_at values c.0 +ℤ c.1 =
    ap (λ r. option_map_or (λ factor. level_at values c.0 +ℤ factor) r (level_at levels c.0))
    (ap (λ ps. value_at ps c.0) more ∙ value_at-own (take i changes) c (not_before changes i c up got)) in
    sym (mapped_one (assigned_level values levels (take i changes)) (assigned_level values levels (take (i + 1) changes)) 1 (length levels) c.0 low (omega arith)
    (λ q apart. ap (λ r. option_map_or (λ factor. level_at values q +ℤ factor) r (level_at levels q)) (ap (λ ps. value_at ps q) more ∙ value_at-other (take i changes) c q apart))
    ∙ ap (λ (z : ℤ). set (map (assigned_level values levels (take i changes)) (range_with_len 1 (length levels))) (c.0 - 1) z) own)

factor_first : (b : Bool) (here there given : ℤ) (r : Option ℤ) (rest : Option ℤ) → (b ≡ true → here ≡ there) → r ≡ option_map (λ _. there) rest → cond b (Some here) r ≡ option_map (λ _. there) (cond b (Some given) rest)
factor_first true here there given r rest first later = ap Some (first refl)
factor_first false here there given r rest first later = later

-- the factors of the objects named, by object
factor_of : (kept : List (Option ℤ)) (changes : List (ℕ × ℤ)) (o : ℕ) → value_at (factors_over kept changes) o ≡ option_map (λ _. factor_in kept o) (value_at changes o)
factor_of kept [] o = refl
factor_of kept (c ∷ changes) o =
    factor_first (c.0 == o) (factor_in kept c.0) (factor_in kept o) c.1 (value_at (factors_over kept changes) o) (value_at changes o)
    (λ is. ap (factor_in kept) (eqb-true c.0 o is))
    (factor_of kept changes o)

-- an Assign is undone by the factors that stood before it
undone_level : (value level factor now : ℤ) (change back : Option ℤ) → value ≡ level -ℤ factor → back ≡ option_map (λ _. factor) change → now ≡ option_map_or (λ z. value +ℤ z) change level → option_map_or (λ z. value +ℤ z) back now ≡ level
undone_level value level factor now None back parts none is = ap (λ r. option_map_or (λ z. value +ℤ z) r now) none ∙ is
undone_level value level factor now (Some given) back parts some is = ap (λ r. option_map_or (λ z. value +ℤ z) r now) some ∙ omega (arith, ints, parts)

pub assigned_undone : (values levels : List ℤ) (kept : List (Option ℤ)) (changes : List (ℕ × ℤ)) → ((o : ℕ) → 1 ≤ o → o ≤ length levels → level_at values o ≡ level_at levels o -ℤ factor_in kept o) → assigned values (assigned values levels changes) (factors_over kept changes) ≡ levels
unfolding assigned objects
assigned_undone values levels kept changes parts =
    let now = map (assigned_level values levels changes) (range_with_len 1 (length levels)) in
    let size : length now ≡ length levels = length-map-range_with_len (assigned_level values levels changes) 1 (length levels) in
    ap (λ n. map (assigned_level values now (factors_over kept changes)) (range_with_len 1 n)) size
    ∙ mapped_same (level_at levels) (assigned_level values now (factors_over kept changes)) 1 (length levels)
    (λ o low high.
    undone_level (level_at values o) (level_at levels o) (factor_in kept o) (level_at now o) (value_at changes o) (value_at (factors_over kept changes) o)
    (parts o low (omega arith))
    (factor_of kept changes o)
    (get_or-map-range_with_len (assigned_level values levels changes) 1 (length levels) (o - 1) o (pos 0) (omega arith) (omega arith)))
    ∙ all_levels levels (length levels) refl

-- values over objects stand under those objects
pub objects-values : (values : List ℤ) (asked : List ℕ) → objects_of (values_in values asked) ≡ asked
objects-values values [] = refl
objects-values values (o ∷ asked) = ap (λ (rest : List ℕ). o ∷ rest) (objects-values values asked)

-- one more of them
pub values_more : (values : List ℤ) (asked : List ℕ) (i : ℕ) → i < length asked → values_in values (take (i + 1) asked) ≡ values_in values (take i asked) ++ (get_or asked i 0, level_at values (get_or asked i 0)) ∷ []
values_more values asked i within =
    ap (λ os. values_in values os) (take_more asked i 0 within) ∙ map-append (λ (o : ℕ). (o, level_at values o)) (take i asked) (get_or asked i 0 ∷ [])

-- the object at a place of some changes
pub change_within : (changes : List (ℕ × ℤ)) (n i : ℕ) (c : ℕ × ℤ) → All (λ p. p.0 ≤ n) changes → slice_get changes i ≡ Some c → c.0 ≤ n
change_within changes n i c all got = got_all (λ p. p.0 ≤ n) changes i c all got

pub change_small : (changes : List (ℕ × ℤ)) (m i : ℕ) (c : ℕ × ℤ) → All (λ p. unsigned_abs p.1 ≤ m) changes → slice_get changes i ≡ Some c → unsigned_abs c.1 ≤ m
change_small changes m i c all got = got_all (λ p. unsigned_abs p.1 ≤ m) changes i c all got

pub change_from_one : (changes : List (ℕ × ℤ)) (i : ℕ) (c : ℕ × ℤ) → IsAscending (objects_of changes) → slice_get changes i ≡ Some c → 1 ≤ c.0
change_from_one changes i c up got =
    omega (arith, ascending_positive (objects_of changes) up i (omega (arith, length-map changes (λ (p : ℕ × ℤ). p.0), got_within changes i c got)), got_object changes i c got)

-- a level is small
pub limits_small : (values levels : List ℤ) → AreLimited values levels → All (λ x. unsigned_abs x < 2 ^ 114) levels
limits_small values levels is k d within =
    let v = is.value_size (k + 1) in
    let f = is.factor_size (k + 1) in
    let at : level_at levels (k + 1) ≡ get_or levels k d = ap (λ i. get_or levels i (pos 0)) (let e : k + 1 - 1 ≡ k = omega arith in e) ∙ get_or_default levels k (pos 0) d within in
    omega (arith, ints, v, f, at)

-- without members there is no least one
pub no_members : (levels : List ℤ) (members : List ℕ) → length members ≡ 0 → least_member levels members ≡ None
no_members levels [] none = least_none
no_members levels (o ∷ members) none = absurd (omega arith)

-- the greatest of small numbers is small
IfThere : (ℤ → Type 0) → Option ℤ → Type 0
IfThere P None = Unit {0}
IfThere P (Some x) = P x

either : (b : Bool) (P : ℤ → Type 0) (x y : ℤ) → P x → P y → P (cond b x y)
either true P x y one two = one
either false P x y one two = two

raised_holds : (P : ℤ → Type 0) (best : Option ℤ) (y : ℤ) → IfThere P best → P y → IfThere P (raised best y)
unfolding IfThere
raised_holds P None y old new = new
raised_holds P (Some x) y old new = either (int_lt y x) P x y old new

reached_from : (P : ℤ → Type 0) (best : Option ℤ) (xs : List ℤ) (r : ℤ) → IfThere P best → ByRecursion P xs → fold raised best xs ≡ Some r → P r
unfolding IfThere
reached_from P None [] r old all is = cc
reached_from P (Some x) [] r old all is = let same : x ≡ r = cc in subst P same old
reached_from P best (y ∷ ys) r old all is = reached_from P (raised best y) ys r (raised_holds P best y old all.0) all.1 is

pub small_greatest : (levels : List ℤ) (set : List ℕ) (r : ℤ) → AreSmall levels → greatest_outside levels set ≡ Some r → unsigned_abs r < 2 ^ 114
unfolding IfThere greatest_of
small_greatest levels set r small is =
    reached_from (λ x. unsigned_abs x < 2 ^ 114) None (map (level_at levels) (outside (length levels) set)) r tt
    (recursion_from_All (λ x. unsigned_abs x < 2 ^ 114) (map (level_at levels) (outside (length levels) set))
    (All-map (λ x. unsigned_abs x < 2 ^ 114) (level_at levels) (outside (length levels) set) (λ k d within. small_level levels (get_or (outside (length levels) set) k d) small)))
    is

pub some_members : (levels : List ℤ) (members : List ℕ) → nat_lt 0 (length (broken levels members)) ≡ true → 0 < length members
some_members levels (o ∷ members) is = omega arith
some_members levels [] is =
    let none : broken levels [] ≡ [] = ap (λ least. filter (λ o. is_above least (level_at levels o)) (outside (length levels) [])) least_none ∙ none_kept (level_at levels) (outside (length levels) []) in
    absurd (let e : nat_lt 0 (length (broken levels [])) ≡ false = ap (λ (os : List ℕ). nat_lt 0 (length os)) none in cc)
