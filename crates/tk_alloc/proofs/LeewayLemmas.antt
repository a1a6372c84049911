-- The laws of a reallocation, for any participants.
use Rattle.std.proofs.Common.{◌≡◌, ℕ, suc, zero, ◌+◌, ◌<◌, ℤ, pos, ◌+ℤ◌, ◌-ℤ◌, List, [], ◌∷◌, length, map, Contains, Option, Some, cond, refl, sym, ap, ◌∙◌, arith, eq-eqb, ne_eqb, inl, inr}
use Rattle.std.specs.Prelude.{unwrap_or}
use Rattle.std.specs.List.{enumerate_from, range_with_len, sum}
use Rattle.std.proofs.lemmas.Int.{ints}
use Rattle.std.proofs.lemmas.Bool.{cases_eq}
use Rattle.std.proofs.lemmas.List.{length-map}
use Rattle.tk_base.specs.Pairs.{value_at}
use Rattle.tk_base.specs.Sum.{int_sum}
use Rattle.tk_base.proofs.SumLemmas.{int_sum-cons}
use Rattle.tk_rows.specs.declared.mon_change.MonChange.{MonChange}
use Rattle.tk_rows.specs.declared.reallocation.Reallocation.{Reallocation}
use Rattle.tk_rows.specs.Factors.{Grid, factor_at}
use Rattle.tk_rows.specs.Replacing.{factor_in, new_sum, old_sum}
use Rattle.tk_share.specs.Shares.{share, shares}
use Rattle.tk_share.proofs.ShareLemmas.{shares_sum}
use Rattle.tk_alloc.specs.Parts.{Part, value_of, above, leeway, new_factor, dealt_from, by_monitor, IsReallocation}

-- the number under an object, where one was put under it
pub value_put : (g : ℕ → ℤ) (objects : List ℕ) (o : ℕ) → Contains objects o → value_at (map (λ q. (q, g q)) objects) o ≡ Some (g o)
value_put g [] o (k, within, is) = absurd (omega arith)
value_put g (x ∷ objects) o (zero, within, is) = ap (λ b. cond b (Some (g x)) (value_at (map (λ q. (q, g q)) objects) o)) (eq-eqb x o is) ∙ ap (λ (q : ℕ). Some (g q)) is
value_put g (x ∷ objects) o (suc k, within, is) = elim (cases_eq x o) [
  | inl same ↦ ap (λ b. cond b (Some (g x)) (value_at (map (λ q. (q, g q)) objects) o)) (eq-eqb x o same) ∙ ap (λ (q : ℕ). Some (g q)) same
  | inr other ↦ ap (λ b. cond b (Some (g x)) (value_at (map (λ q. (q, g q)) objects) o)) (ne_eqb x o other) ∙ value_put g objects o (k, omega arith, is)
]

-- ---- sums over participants

abbrev pub weights_in : List Part → List ℕ
weights_in parts = map (λ q. q.weight) parts

shares_in : (weights : List ℕ) (leeway : ℤ) (first : ℕ) (ps : List Part) → map (λ e. share weights e.0 leeway) (enumerate_from first ps) ≡ map (λ p. share weights p leeway) (range_with_len first (length ps))
shares_in weights leeway first [] = refl
shares_in weights leeway first (q ∷ ps) = ap (λ (xs : List ℤ). share weights first leeway ∷ xs) (shares_in weights leeway (first + 1) ps)

shares_of_parts : (parts : List Part) (leeway : ℤ) → 0 < sum (weights_in parts) → int_sum (map (λ e. share (weights_in parts) e.0 leeway) (enumerate_from 0 parts)) ≡ leeway
unfolding shares
shares_of_parts parts leeway some =
    ap int_sum (shares_in (weights_in parts) leeway 0 parts)
    ∙ ap (λ (n : ℕ). int_sum (map (λ p. share (weights_in parts) p leeway) (range_with_len 0 n))) (sym (length-map parts (λ (q : Part). q.weight)))
    ∙ shares_sum (weights_in parts) leeway some

-- what a participant's new factor is without its share
abbrev pub base : ℕ → Part → ℤ
base o part = part.border -ℤ value_of part.values o

split_sum : (f : Part → ℤ) (g : ℕ → ℤ) (first : ℕ) (ps : List Part) → int_sum (map (λ e. f e.1 +ℤ g e.0) (enumerate_from first ps)) ≡ int_sum (map f ps) +ℤ int_sum (map (λ e. g e.0) (enumerate_from first ps))
split_sum f g first [] = refl
split_sum f g first (q ∷ ps) =
    let rest = split_sum f g (first + 1) ps in
    let one = int_sum-cons (f q +ℤ g first) (map (λ e. f e.1 +ℤ g e.0) (enumerate_from (first + 1) ps)) in
    let two = int_sum-cons (f q) (map f ps) in
    let three = int_sum-cons (g first) (map (λ e. g e.0) (enumerate_from (first + 1) ps)) in
    omega (arith, ints, rest, one, two, three)

pub split_above : (grid : Grid) (o : ℕ) (ps : List Part) → int_sum (map (above grid o) ps) +ℤ int_sum (map (base o) ps) ≡ int_sum (map (λ q. factor_at grid q.node o) ps)
split_above grid o [] = refl
split_above grid o (q ∷ ps) =
    let rest = split_above grid o ps in
    let one = int_sum-cons (above grid o q) (map (above grid o) ps) in
    let two = int_sum-cons (base o q) (map (base o) ps) in
    let three = int_sum-cons (factor_at grid q.node o) (map (λ r. factor_at grid r.node o) ps) in
    omega (arith, ints, rest, one, two, three)

-- the new factors of an object sum to its old ones
pub sum_is_kept : (grid : Grid) (parts : List Part) (o : ℕ) → 0 < sum (weights_in parts) → int_sum (map (λ e. new_factor grid parts e.0 e.1 o) (enumerate_from 0 parts)) ≡ int_sum (map (λ q. factor_at grid q.node o) parts)
unfolding leeway
sum_is_kept grid parts o some =
    let told = split_sum (base o) (λ p. share (weights_in parts) p (leeway grid parts o)) 0 parts in
    let dealt = shares_of_parts parts (leeway grid parts o) some in
    omega (arith, ints, told, dealt, split_above grid o parts)

-- ---- a reallocation, node by node

tail_of : {X : Type 0} {x y : X} {xs ys : List X} → x ∷ xs ≡ y ∷ ys → xs ≡ ys
tail_of e = cc

head_of : {X : Type 0} {x y : X} {xs ys : List X} → x ∷ xs ≡ y ∷ ys → x ≡ y
head_of e = cc

-- a reallocation of a coordinator and monitors, taken apart
pub own_is : (grid : Grid) (own : Part) (ms : List Part) (objects members : List ℕ) (change : Reallocation) → IsReallocation grid (own ∷ ms) objects members change
    → change.own ≡ map (λ o. (o, new_factor grid (own ∷ ms) 0 own o)) objects
own_is grid own ms objects members change r = ap (λ (x : ℕ × List (ℕ × ℤ)). x.1) (head_of r.factors)

pub at_is : (grid : Grid) (own : Part) (ms : List Part) (objects members : List ℕ) (change : Reallocation) → IsReallocation grid (own ∷ ms) objects members change
    → by_monitor change.at.items ≡ dealt_from grid (own ∷ ms) objects 1 ms
at_is grid own ms objects members change r = tail_of r.factors

values_by : (at : List MonChange) (o : ℕ) → map (λ c. factor_in c.changes o (pos 0)) at ≡ map (λ (x : ℕ × List (ℕ × ℤ)). factor_in x.1 o (pos 0)) (by_monitor at)
values_by [] o = refl
values_by (c ∷ at) o = ap (λ (xs : List ℤ). factor_in c.changes o (pos 0) ∷ xs) (values_by at o)

dealt_values : (grid : Grid) (parts : List Part) (objects : List ℕ) (o first : ℕ) (ps : List Part) → Contains objects o
    → map (λ (x : ℕ × List (ℕ × ℤ)). factor_in x.1 o (pos 0)) (dealt_from grid parts objects first ps) ≡ map (λ e. new_factor grid parts e.0 e.1 o) (enumerate_from first ps)
dealt_values grid parts objects o first [] in' = refl
dealt_values grid parts objects o first (q ∷ ps) in' =
    ap (λ (z : ℤ). z ∷ map (λ (x : ℕ × List (ℕ × ℤ)). factor_in x.1 o (pos 0)) (dealt_from grid parts objects (first + 1) ps)) (ap (λ (v : Option ℤ). unwrap_or v (pos 0)) (value_put (new_factor grid parts first q) objects o in'))
    ∙ ap (λ (zs : List ℤ). new_factor grid parts first q o ∷ zs) (dealt_values grid parts objects o (first + 1) ps in')

olds_by : (grid : Grid) (at : List MonChange) (o : ℕ) → map (λ c. factor_at grid c.mon.0 o) at ≡ map (λ (x : ℕ × List (ℕ × ℤ)). factor_at grid x.0 o) (by_monitor at)
olds_by grid [] o = refl
olds_by grid (c ∷ at) o = ap (λ (xs : List ℤ). factor_at grid c.mon.0 o ∷ xs) (olds_by grid at o)

dealt_olds : (grid : Grid) (parts : List Part) (objects : List ℕ) (o first : ℕ) (ps : List Part)
    → map (λ (x : ℕ × List (ℕ × ℤ)). factor_at grid x.0 o) (dealt_from grid parts objects first ps) ≡ map (λ q. factor_at grid q.node o) ps
dealt_olds grid parts objects o first [] = refl
dealt_olds grid parts objects o first (q ∷ ps) = ap (λ (zs : List ℤ). factor_at grid q.node o ∷ zs) (dealt_olds grid parts objects o (first + 1) ps)

-- the sums that a table wants to be equal
pub sums_agree : (grid : Grid) (own : Part) (ms : List Part) (objects members : List ℕ) (change : Reallocation) (o : ℕ) → IsReallocation grid (own ∷ ms) objects members change → own.node ≡ 0 → 0 < sum (weights_in (own ∷ ms)) → Contains objects o
    → new_sum change o ≡ old_sum grid change o
sums_agree grid own ms objects members change o r zero_node some in' =
    let parts = own ∷ ms in
    let own_value : factor_in change.own o (pos 0) ≡ new_factor grid parts 0 own o =
    ap (λ (xs : List (ℕ × ℤ)). factor_in xs o (pos 0)) (own_is grid own ms objects members change r) ∙ ap (λ (v : Option ℤ). unwrap_or v (pos 0)) (value_put (new_factor grid parts 0 own) objects o in') in
    let values : map (λ c. factor_in c.changes o (pos 0)) change.at.items ≡ map (λ e. new_factor grid parts e.0 e.1 o) (enumerate_from 1 ms) =
    values_by change.at.items o ∙ ap (map (λ (x : ℕ × List (ℕ × ℤ)). factor_in x.1 o (pos 0))) (at_is grid own ms objects members change r) ∙ dealt_values grid parts objects o 1 ms in' in
    let olds : map (λ c. factor_at grid c.mon.0 o) change.at.items ≡ map (λ q. factor_at grid q.node o) ms =
    olds_by grid change.at.items o ∙ ap (map (λ (x : ℕ × List (ℕ × ℤ)). factor_at grid x.0 o)) (at_is grid own ms objects members change r) ∙ dealt_olds grid parts objects o 1 ms in
    let own_old : factor_at grid own.node o ≡ factor_at grid 0 o = ap (λ (n : ℕ). factor_at grid n o) zero_node in
    let new = int_sum-cons (new_factor grid parts 0 own o) (map (λ e. new_factor grid parts e.0 e.1 o) (enumerate_from 1 ms)) in
    let old = int_sum-cons (factor_at grid own.node o) (map (λ q. factor_at grid q.node o) ms) in
    omega (arith, ints, own_value, ap int_sum values, ap int_sum olds, own_old, new, old, sum_is_kept grid parts o some)
