-- Writing factors into one row.
use Rattle.std.proofs.Common.{◌≡◌, ◌≢◌, ℕ, suc, zero, ◌+◌, ◌<◌, ℤ, pos, ◌+ℤ◌, List, [], ◌∷◌, length, map, get_or, set, take, ◌++◌, replicate, Contains, Option, Some, cond, refl, sym, ap, ◌∙◌, subst, arith, eq-eqb, ne_eqb, inl, inr}
use Rattle.std.specs.Prelude.{unwrap_or}
use Rattle.std.specs.List.{All}
use Rattle.std.proofs.lemmas.Int.{ints}
use Rattle.std.proofs.lemmas.Bool.{cases_eq, cases_lt}
use Rattle.std.proofs.lemmas.List.{length-set, get_or-set_same, get_or-set_other, get_or_default, set_past, take_more, map-append}
use Rattle.std.proofs.lemmas.List.Sums.{fold_push}
use Rattle.std.proofs.lemmas.List.Elements.{All-head, All-tail}
use Rattle.tk_base.specs.Ascending.{IsAscending}
use Rattle.tk_base.specs.Pairs.{objects_of, value_at}
use Rattle.tk_base.specs.Sum.{int_sum}
use Rattle.tk_base.proofs.AscendingLemmas.{ascending_apart, ascending_positive}
use Rattle.tk_base.proofs.PairsLemmas.{value_at-absent}
use Rattle.tk_base.proofs.SumLemmas.{int_sum-cons}
use Rattle.tk_rows.specs.Factors.{IsFactor, AreFactors}
use Rattle.tk_rows.specs.declared.mon_change.MonChange.{MonChange}
use Rattle.tk_rows.specs.Writing.{named_at, written}
use Rattle.tk_rows.proofs.SumLemmas.{int_sum-set, zeros_at}

-- no number stands twice in a list
abbrev pub AreApart : List ℕ → Type 0
AreApart [] = Unit {0}
AreApart (x ∷ xs) = (Contains xs x → ⊥) × AreApart xs

ascending_tail : (x : ℕ) (xs : List ℕ) → IsAscending (x ∷ xs) → IsAscending xs
ascending_tail x xs up zero h = let rise = up 1 (omega arith) in omega arith
ascending_tail x xs up (suc k) h = up (suc (suc k)) (omega arith)

pub ascending_are_apart : (xs : List ℕ) → IsAscending xs → AreApart xs
ascending_are_apart [] up = tt
ascending_are_apart (x ∷ xs) up = (
  λ (k, within, is).
      let rise = ascending_apart (x ∷ xs) up 0 (suc k) (omega arith) (omega arith) in
      let here : get_or xs k 0 ≡ x = get_or_default xs k 0 x within ∙ is in
      omega arith,
  ascending_are_apart xs (ascending_tail x xs up),
)

-- 0 is apart from numbers that ascend
pub zero_apart : (xs : List ℕ) → IsAscending xs → Contains xs 0 → ⊥
zero_apart xs up (k, within, is) = let above = ascending_positive xs up k within in omega arith

pub length-written : (named : List (ℕ × ℤ)) (row : List ℤ) → length (written row named) ≡ length row
length-written [] row = refl
length-written (p ∷ named) row = length-written named (set row p.0 p.1) ∙ length-set row p.0 p.1

-- what a node has after the writing
pub written_at : (named : List (ℕ × ℤ)) (row : List ℤ) (n : ℕ) → AreApart (objects_of named) → All (λ j. j < length row) (objects_of named)
    → get_or (written row named) n (pos 0) ≡ unwrap_or (value_at named n) (get_or row n (pos 0))
written_at [] row n apart within = refl
written_at (p ∷ named) row n apart within =
    let here : p.0 < length row = All-head (λ j. j < length row) p.0 (objects_of named) within in
    let rest : All (λ j. j < length (set row p.0 p.1)) (objects_of named) = λ k d h. omega (arith, length-set row p.0 p.1, All-tail (λ j. j < length row) p.0 (objects_of named) within k d h) in
    let told = written_at named (set row p.0 p.1) n apart.1 rest in
    elim (cases_eq p.0 n) [
      | inl same ↦
          told
          ∙ ap (λ (v : Option ℤ). unwrap_or v (get_or (set row p.0 p.1) n (pos 0))) (value_at-absent named n (λ found. apart.0 (subst (Contains (objects_of named)) (sym same) found)))
          ∙ ap (λ (m : ℕ). get_or (set row p.0 p.1) m (pos 0)) (sym same)
          ∙ get_or-set_same row p.0 p.1 (pos 0) here
          ∙ sym (ap (λ b. unwrap_or (cond b (Some p.1) (value_at named n)) (get_or row n (pos 0))) (eq-eqb p.0 n same))
      | inr other ↦
          told
          ∙ ap (unwrap_or (value_at named n)) (get_or-set_other row p.0 n p.1 (pos 0) (λ e. other (sym e)))
          ∙ sym (ap (λ b. unwrap_or (cond b (Some p.1) (value_at named n)) (get_or row n (pos 0))) (ne_eqb p.0 n other))
    ]

-- what other nodes have does not change with one that is set
unset : (named : List (ℕ × ℤ)) (row : List ℤ) (n : ℕ) (v : ℤ) → (Contains (objects_of named) n → ⊥)
    → map (λ p. get_or (set row n v) p.0 (pos 0)) named ≡ map (λ p. get_or row p.0 (pos 0)) named
unset [] row n v apart = refl
unset (p ∷ named) row n v apart =
    let other : p.0 ≢ n = λ e. apart (0, omega arith, e) in
    let first = get_or-set_other row n p.0 v (pos 0) other in
    let rest = unset named row n v (λ (k, within, is). apart (suc k, omega arith, is)) in
    ap (λ (z : ℤ). z ∷ map (λ p. get_or (set row n v) p.0 (pos 0)) named) first ∙ ap (λ (zs : List ℤ). get_or row p.0 (pos 0) ∷ zs) rest

-- the sum of a row changes by what is named
pub written_sum : (named : List (ℕ × ℤ)) (row : List ℤ) → AreApart (objects_of named) → All (λ j. j < length row) (objects_of named)
    → int_sum (written row named) +ℤ int_sum (map (λ p. get_or row p.0 (pos 0)) named) ≡ int_sum row +ℤ int_sum (map (λ p. p.1) named)
written_sum [] row apart within = refl
written_sum (p ∷ named) row apart within =
    let here : p.0 < length row = All-head (λ j. j < length row) p.0 (objects_of named) within in
    let rest : All (λ j. j < length (set row p.0 p.1)) (objects_of named) = λ k d h. omega (arith, length-set row p.0 p.1, All-tail (λ j. j < length row) p.0 (objects_of named) within k d h) in
    let told = written_sum named (set row p.0 p.1) apart.1 rest in
    let same : int_sum (map (λ q. get_or (set row p.0 p.1) q.0 (pos 0)) named) ≡ int_sum (map (λ q. get_or row q.0 (pos 0)) named) = ap int_sum (unset named row p.0 p.1 apart.0) in
    let one = int_sum-set row p.0 p.1 here in
    let old = int_sum-cons (get_or row p.0 (pos 0)) (map (λ q. get_or row q.0 (pos 0)) named) in
    let new = int_sum-cons p.1 (map (λ q. q.1) named) in
    omega (arith, ints, told, same, one, old, new)

pub factors_set : (row : List ℤ) (n : ℕ) (v : ℤ) → AreFactors row → IsFactor v → AreFactors (set row n v)
factors_set row n v small fits i = elim (cases_eq i n) [
  | inl same ↦ elim (cases_lt n (length row)) [
    | inl within ↦ subst IsFactor (sym (ap (λ (m : ℕ). get_or (set row n v) m (pos 0)) same ∙ get_or-set_same row n v (pos 0) within)) fits
    | inr past ↦ subst IsFactor (sym (ap (λ (r : List ℤ). get_or r i (pos 0)) (set_past row n v past))) (small i)
  ]
  | inr other ↦ subst IsFactor (sym (get_or-set_other row n i v (pos 0) other)) (small i)
]

pub factors_written : (named : List (ℕ × ℤ)) (row : List ℤ) → AreFactors row → All (λ p. IsFactor p.1) named → AreFactors (written row named)
factors_written [] row small fits = small
factors_written (p ∷ named) row small fits =
    factors_written named (set row p.0 p.1) (factors_set row p.0 p.1 small (All-head (λ q. IsFactor q.1) p named fits)) (All-tail (λ q. IsFactor q.1) p named fits)

pub zeros_are_factors : (n : ℕ) → AreFactors (replicate n (pos 0))
zeros_are_factors n i = subst IsFactor (sym (zeros_at n i)) (omega arith)

-- one more node is written
pub written_more : (row xs : List ℤ) (own v : ℤ) (at : List MonChange) (i place : ℕ) (c : MonChange) → i < length at → c ≡ get_or at i c → v ≡ (get_or {A = ℕ × ℤ} c.changes place (0, pos 0)).1
    → xs ≡ written row ((0, own) ∷ named_at (take i at) place) → set xs c.mon.0 v ≡ written row ((0, own) ∷ named_at (take (i + 1) at) place)
written_more row xs own v at i place c within is value before =
    let f : MonChange → ℕ × ℤ = λ d. (d.mon.0, (get_or {A = ℕ × ℤ} d.changes place (0, pos 0)).1) in
    let more : map f (take (i + 1) at) ≡ map f (take i at) ++ f c ∷ [] =
    ap (map f) (take_more at i c within) ∙ map-append f (take i at) (get_or at i c ∷ []) ∙ ap (λ (d : MonChange). map f (take i at) ++ f d ∷ []) (sym is) in
    ap (λ (ys : List ℤ). set ys c.mon.0 v) before
    ∙ ap (set (written row ((0, own) ∷ map f (take i at))) c.mon.0) value
    ∙ sym (fold_push (λ (r : List ℤ) (p : ℕ × ℤ). set r p.0 p.1) (set row 0 own) (map f (take i at)) (f c))
    ∙ sym (ap (λ (ps : List (ℕ × ℤ)). written row ((0, own) ∷ ps)) more)
