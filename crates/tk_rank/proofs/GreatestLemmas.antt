-- The greatest of some numbers, in parts.
use Rattle.std.proofs.Common.{◌≡◌, ℕ, ℤ, Bool, true, false, ◌||◌, cond, ltb, List, [], ◌∷◌, ◌++◌, length, map, filter, Option, Some, None, refl, sym, ap, ap₂, ◌∙◌, arith}
use Rattle.std.specs.Int.{int_max}
use Rattle.std.specs.List.{fold, cons_option, list_any}
use Rattle.std.specs.Ordering.{int_cmp, is_lt}
use Rattle.std.proofs.lemmas.Int.{ints, clamps}
use Rattle.std.proofs.lemmas.Bool.{lt-ltb, or_parts}
use Rattle.std.proofs.lemmas.List.Sums.{fold-append}
use Rattle.std.proofs.lemmas.List.Elements.{filter_map-append}
use Rattle.tk_base.proofs.CompareLemmas.{lt-cmp, max_over}
use Rattle.tk_border.specs.Levels.{raised, greatest_of}
use Rattle.tk_rank.specs.Tree.{greater, is_over, leaf_at, standing}

pub greater_none : (a : Option ℤ) → greater a None ≡ a
greater_none None = refl
greater_none (Some x) = refl

max_assoc : (x y z : ℤ) → int_max (int_max x y) z ≡ int_max x (int_max y z)
max_assoc x y z = omega (arith, ints, clamps)

pub greater_assoc : (a b c : Option ℤ) → greater (greater a b) c ≡ greater a (greater b c)
greater_assoc None b c = refl
greater_assoc (Some x) None c = refl
greater_assoc (Some x) (Some y) None = refl
greater_assoc (Some x) (Some y) (Some z) = ap Some (max_assoc x y z)

raised_is : (b : Option ℤ) (y : ℤ) → raised b y ≡ greater b (Some y)
raised_is None y = refl
raised_is (Some x) y = refl

fold-from : (b : Option ℤ) (xs : List ℤ) → fold raised b xs ≡ greater b (fold raised None xs)
fold-from b [] = sym (greater_none b)
fold-from b (x ∷ xs) =
    fold-from (raised b x) xs
    ∙ ap (λ a. greater a (fold raised None xs)) (raised_is b x)
    ∙ greater_assoc b (Some x) (fold raised None xs)
    ∙ ap (greater b) (sym (fold-from (Some x) xs))

pub greatest-append : (xs ys : List ℤ) → greatest_of (xs ++ ys) ≡ greater (greatest_of xs) (greatest_of ys)
unfolding greatest_of
greatest-append xs ys = fold-append raised None xs ys ∙ fold-from (fold raised None xs) ys

pub greatest-one : (a : Option ℤ) → greatest_of (cons_option a []) ≡ a
unfolding greatest_of
greatest-one None = refl
greatest-one (Some x) = refl

pub greatest-cons : (a : Option ℤ) (xs : List ℤ) → greatest_of (cons_option a xs) ≡ greater a (greatest_of xs)
unfolding greatest_of
greatest-cons None xs = refl
greatest-cons (Some x) xs = fold-from (Some x) xs

pub standing-append : (leaves : List (Option ℤ)) (xs ys : List ℕ) → greatest_of (standing leaves (xs ++ ys)) ≡ greater (greatest_of (standing leaves xs)) (greatest_of (standing leaves ys))
standing-append leaves xs ys =
    ap greatest_of (filter_map-append (leaf_at leaves) xs ys) ∙ greatest-append (standing leaves xs) (standing leaves ys)

over_greater : (level : ℤ) (a b : Option ℤ) → is_over level (greater a b) ≡ (is_over level a || is_over level b)
over_greater level None b = refl
over_greater level (Some x) None = grind arith
over_greater level (Some x) (Some y) =
    lt-cmp level (int_max x y) ∙ max_over level x y ∙ ap₂ ◌||◌ (sym (lt-cmp level x)) (sym (lt-cmp level y))

-- the greatest number is above a level where one of them is
pub over_any : (level : ℤ) (leaves : List (Option ℤ)) (list : List ℕ) → is_over level (greatest_of (standing leaves list)) ≡ list_any (λ o. is_over level (leaf_at leaves o)) list
unfolding greatest_of
over_any level leaves [] = refl
over_any level leaves (o ∷ list) =
    ap (is_over level) (greatest-cons (leaf_at leaves o) (standing leaves list))
    ∙ over_greater level (leaf_at leaves o) (greatest_of (standing leaves list))
    ∙ ap (λ t. is_over level (leaf_at leaves o) || t) (over_any level leaves list)

-- a filter keeps nothing where no element passes
pub filter_nothing : (p : ℕ → Bool) (xs : List ℕ) → list_any p xs ≡ false → filter p xs ≡ []
filter_nothing p [] none = refl
filter_nothing p (x ∷ xs) none =
    let both = or_parts (p x) (list_any p xs) none in
    ap (λ t. cond t (x ∷ filter p xs) (filter p xs)) both.0 ∙ filter_nothing p xs both.1

-- ---- numbers above a level

first_kept : (t : Bool) (o : ℕ) (os : List ℕ) → ltb 0 (length (cond t (o ∷ os) os)) ≡ (t || ltb 0 (length os))
first_kept true o os = lt-ltb 0 (length (o ∷ os)) (omega arith)
first_kept false o os = refl

-- some are above a level where the greatest is
pub some_over : (level : ℤ) (h : ℕ → ℤ) (os : List ℕ) → ltb 0 (length (filter (λ o. is_lt (int_cmp level (h o))) os)) ≡ is_over level (greatest_of (map h os))
unfolding greatest_of
some_over level h [] = refl
some_over level h (o ∷ os) =
    let here = is_lt (int_cmp level (h o)) in
    first_kept here o (filter (λ q. is_lt (int_cmp level (h q))) os)
    ∙ ap (λ t. here || t) (some_over level h os)
    ∙ sym (ap (is_over level) (greatest-cons (Some (h o)) (map h os)) ∙ over_greater level (Some (h o)) (greatest_of (map h os)))
