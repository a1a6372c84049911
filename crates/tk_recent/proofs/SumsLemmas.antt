-- The sums of a tick, and what takes them back.
use Rattle.std.proofs.Common.{◌≡◌, ℕ, zero, suc, ◌+◌, ◌-◌, ◌<◌, ℤ, pos, ◌+ℤ◌, List, [], ◌∷◌, ◌++◌, length, map, get_or, set, cond, refl, sym, ap, ◌∙◌, subst, arith, inl, inr, ne_eqb, eq-eqb}
use Rattle.std.specs.Prelude.{neg_ℤ, replicate, filter}
use Rattle.std.specs.List.{enumerate_from}
use Rattle.std.proofs.lemmas.Bool.{cases_eq}
use Rattle.std.proofs.lemmas.Int.{ints}
use Rattle.std.proofs.lemmas.List.{ext_get_or, get_or-map, get_or-replicate, get_or-set_other, get_or-set_same, length-map, length-replicate, length-set}
use Rattle.std.proofs.lemmas.List.FromFn.{get_or-map-range_with_len, length-map-range_with_len}
use Rattle.tk_base.specs.Objects.{objects}
use Rattle.tk_input.specs.Logs.{IsObject, sum_for}
use Rattle.tk_input.proofs.SumLemmas.{by_at}
use Rattle.tk_compact.specs.Compacted.{changes_something, compacted}
use Rattle.tk_compact.proofs.CompactedLemmas.{compacted_limits, compacted_sums}
use Rattle.tk_window.specs.Ticks.{AreOver}
use Rattle.tk_window.proofs.SumLemmas.{sum_for-append, sum_for-cons}
use Rattle.tk_recent.specs.Kept.{opposite, sum_with, sums_of}

pub length-sums_of : (n : ℕ) (cs : List (ℕ × ℤ)) → length (sums_of n cs) ≡ n
unfolding sums_of objects
length-sums_of n cs = length-map-range_with_len (λ o. sum_for o cs) 1 n

pub sums_at : (n : ℕ) (cs : List (ℕ × ℤ)) (i o : ℕ) → i < n → o ≡ i + 1 → get_or (sums_of n cs) i (pos 0) ≡ sum_for o cs
unfolding sums_of objects
sums_at n cs i o within is = get_or-map-range_with_len (λ o. sum_for o cs) 1 n i o (pos 0) within (omega (arith, is))

-- of no changes
pub sums_none : (n : ℕ) → replicate n (pos 0) ≡ sums_of n []
sums_none n =
    let size : length (replicate n (pos 0)) ≡ n = length-replicate n (pos 0) in
    ext_get_or (pos 0) (replicate n (pos 0)) (sums_of n []) (size ∙ sym (length-sums_of n []))
    (λ i within. get_or-replicate n i (pos 0) (pos 0) (omega (arith, within, size)) ∙ sym (sums_at n [] i (i + 1) (omega (arith, within, size)) refl))

bare : (s : ℤ) → s +ℤ pos 0 ≡ s
bare s = omega (arith, ints)

sum_one : (o : ℕ) (cs : List (ℕ × ℤ)) (c : ℕ × ℤ) → sum_for o (cs ++ c ∷ []) ≡ sum_for o cs +ℤ by_at o c
sum_one o cs c = sum_for-append o cs (c ∷ []) ∙ ap (λ s. sum_for o cs +ℤ s) (sum_for-cons o c [] ∙ bare (by_at o c))

own : (o : ℕ) (c : ℕ × ℤ) → c.0 ≡ o → by_at o c ≡ c.1
own o c is = ap (λ b. cond b c.1 (pos 0)) (eq-eqb c.0 o is)

other : (o : ℕ) (c : ℕ × ℤ) → (c.0 ≡ o → ⊥) → by_at o c ≡ pos 0
other o c apart = ap (λ b. cond b c.1 (pos 0)) (ne_eqb c.0 o apart)

-- one change more
pub sums_more : (n : ℕ) (cs : List (ℕ × ℤ)) (c : ℕ × ℤ) → IsObject n c.0 → set (sums_of n cs) (c.0 - 1) (sum_with (sums_of n cs) c) ≡ sums_of n (cs ++ c ∷ [])
sums_more n cs c is =
    let old = sums_of n cs in
    let place : ℕ = c.0 - 1 in
    let sum : ℤ = sum_with old c in
    let low = is.0 in
    let high = is.1 in
    let size : length old ≡ n = length-sums_of n cs in
    let new : length (set old place sum) ≡ n = length-set old place sum ∙ size in
    ext_get_or (pos 0) (set old place sum) (sums_of n (cs ++ c ∷ [])) (new ∙ sym (length-sums_of n (cs ++ c ∷ []))) (λ i within.
    let inside : i < n = omega (arith, within, new) in
    let right : get_or (sums_of n (cs ++ c ∷ [])) i (pos 0) ≡ sum_for (i + 1) cs +ℤ by_at (i + 1) c = sums_at n (cs ++ c ∷ []) i (i + 1) inside refl ∙ sum_one (i + 1) cs c in
    let left : get_or old i (pos 0) ≡ sum_for (i + 1) cs = sums_at n cs i (i + 1) inside refl in
    elim (cases_eq i place) [
      | inl same ↦
          let o : c.0 ≡ i + 1 = omega (arith, same, low) in
          ap (λ k. get_or (set old place sum) k (pos 0)) same
          ∙ get_or-set_same old place sum (pos 0) (omega (arith, size, low, high))
          ∙ ap (λ k. get_or old k (pos 0) +ℤ c.1) (sym same)
          ∙ ap (λ s. s +ℤ c.1) left
          ∙ ap (λ s. sum_for (i + 1) cs +ℤ s) (sym (own (i + 1) c o))
          ∙ sym right
      | inr apart ↦
          let away : c.0 ≡ i + 1 → ⊥ = λ e. apart (omega (arith, e)) in
          get_or-set_other old place i sum (pos 0) apart
          ∙ left
          ∙ sym (bare (sum_for (i + 1) cs))
          ∙ ap (λ s. sum_for (i + 1) cs +ℤ s) (sym (other (i + 1) c away))
          ∙ sym right
    ])

-- what takes sums back is of the objects that they are of
pub opposite_over : (sums : List ℤ) → AreOver (length sums) (opposite sums)
unfolding opposite
opposite_over sums = subst (λ n. AreOver n (compacted (map neg_ℤ sums))) (length-map sums neg_ℤ) (compacted_limits (map neg_ℤ sums)).1.0

-- it sums to their opposites
pub sum_for-opposite : (n : ℕ) (cs : List (ℕ × ℤ)) (o : ℕ) → IsObject n o → sum_for o (opposite (sums_of n cs)) ≡ neg_ℤ (sum_for o cs)
unfolding opposite
sum_for-opposite n cs o is =
    let low = is.0 in
    let high = is.1 in
    let sums = sums_of n cs in
    let size : length sums ≡ n = length-sums_of n cs in
    (compacted_sums (map neg_ℤ sums) o low (omega (arith, high, size, length-map sums neg_ℤ))).0
    ∙ get_or-map neg_ℤ sums (o - 1) (pos 0) (pos 0) (omega (arith, low, high, size))
    ∙ ap neg_ℤ (sums_at n cs (o - 1) o (omega (arith, low, high)) (omega (arith, low)))

-- nothing takes nothing back
nothing_left : (a n : ℕ) → filter changes_something (enumerate_from a (map neg_ℤ (replicate n (pos 0)))) ≡ []
nothing_left a zero = refl
nothing_left a (suc n) = nothing_left (a + 1) n

pub opposite_none : (n : ℕ) → opposite (sums_of n []) ≡ []
unfolding opposite compacted
opposite_none n = ap (λ (sums : List ℤ). filter changes_something (enumerate_from 1 (map neg_ℤ sums))) (sym (sums_none n)) ∙ nothing_left 1 n
