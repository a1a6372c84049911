-- Names of which no two are the same.
use Rattle.std.proofs.Common.{◌≡◌, ℕ, suc, zero, ◌+◌, ◌-◌, ◌<◌, Bool, true, false, not, cond, List, [], ◌∷◌, length, get_or, Option, Some, None, option_map, Vec, bytes_eq, ap, ◌∙◌, arith}
use Rattle.std.specs.Prelude.{nat_lt}
use Rattle.std.specs.List.{position_or_len, IsDistinct, AllByRecursion}
use Rattle.std.specs.Cmp.Lexicographic.{nat_list_eq_equiv}
use Rattle.std.proofs.lemmas.Bool.{lt-ltb}
use Rattle.tk_input.specs.Catalog.{AreDifferent, names_of}
use Rattle.tk_input.proofs.NamesLemmas.{length-names_of}

-- names that differ do so either way round
pub other_way : (x y : List ℕ) → bytes_eq x y ≡ false → bytes_eq y x ≡ false
other_way x y differ = nat_list_eq_equiv.symm y x ∙ differ

first_or_later : (p : List ℕ → Bool) (b : Bool) (name : List ℕ) (names : List (List ℕ)) → p name ≡ b → position_or_len p (name ∷ names) ≡ cond (not b) (1 + position_or_len p names) 0
first_or_later p b name names is = ap (λ (c : Bool). cond (not c) (1 + position_or_len p names) 0) is

-- a name that is none of some keys is not that of one of them
pub later_differs : {A : Type 0} (name : List ℕ) (keys : List (Vec ℕ A)) (i : ℕ) → AllByRecursion (λ k. bytes_eq name k.items ≡ false) keys → i < length keys → bytes_eq name (get_or (names_of keys) i []) ≡ false
later_differs name [] i all within = absurd (omega (arith, within))
later_differs name (k ∷ keys) zero all within = all.0
later_differs name (k ∷ keys) (suc i) all within = later_differs name keys i all.1 (omega (arith, within))

-- the first name that is the same as one is itself
first_is : {A : Type 0} (keys : List (Vec ℕ A)) (i : ℕ) → IsDistinct (λ a b. bytes_eq a.items b.items) keys → i < length keys → position_or_len (λ n. bytes_eq (get_or (names_of keys) i []) n) (names_of keys) ≡ i
unfolding IsDistinct
first_is [] i distinct within = absurd (omega (arith, within))
first_is (k ∷ keys) zero distinct within = first_or_later (λ n. bytes_eq k.items n) true k.items (names_of keys) (nat_list_eq_equiv.refl k.items)
first_is (k ∷ keys) (suc i) distinct within =
    let name = get_or (names_of keys) i [] in
    let later : 1 + position_or_len (λ n. bytes_eq name n) (names_of keys) ≡ suc i = omega (arith, first_is keys i distinct.1 (omega (arith, within))) in
    first_or_later (λ n. bytes_eq name n) false k.items (names_of keys) (other_way k.items name (later_differs k.items keys i distinct.0 (omega (arith, within)))) ∙ later

at_first : (names : List (List ℕ)) (i n : ℕ) → n ≡ i → i < length names → cond (nat_lt n (length names)) (Some n) None ≡ Some i
at_first names i n same within = ap (λ (m : ℕ). cond (nat_lt m (length names)) (Some m) None) same ∙ ap (λ (b : Bool). cond b (Some i) None) (lt-ltb i (length names) within)

-- the names of different keys are different
pub names_differ : {A : Type 0} (keys : List (Vec ℕ A)) → IsDistinct (λ a b. bytes_eq a.items b.items) keys → AreDifferent (names_of keys)
names_differ keys distinct o object =
    let within : o - 1 < length keys = omega (arith, object, length-names_of keys) in
    let last : o - 1 + 1 ≡ o = omega (arith, object) in
    ap (λ (p : Option ℕ). option_map (λ i. i + 1) p) (at_first (names_of keys) (o - 1) _ (first_is keys (o - 1) distinct within) (omega (arith, within, length-names_of keys)))
    ∙ ap (λ (n : ℕ). Some n) last
