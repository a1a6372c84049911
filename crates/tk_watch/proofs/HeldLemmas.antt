-- What windows hold of an object.
use Rattle.std.proofs.Common.{◌≡◌, ℕ, ◌-◌, ◌<◌, ℤ, pos, ◌+ℤ◌, List, [], ◌∷◌, ◌++◌, length, map, get_or, set, take, drop, cond, sym, ap, ◌∙◌, arith, inl, inr, ne_eqb, eq-eqb}
use Rattle.std.specs.Prelude.{neg_ℤ, flat_map, replicate}
use Rattle.std.proofs.lemmas.Bool.{cases_eq}
use Rattle.std.proofs.lemmas.Int.{ints}
use Rattle.std.proofs.lemmas.List.{append-nil, get_or-map, get_or-replicate, get_or-set_other, get_or-set_same, length-map, map-set, take-append-drop}
use Rattle.std.proofs.lemmas.List.Concat.{flat_map-append}
use Rattle.tk_base.specs.Sum.{int_sum}
use Rattle.tk_input.specs.Logs.{IsObject, sum_for}
use Rattle.tk_input.proofs.SumLemmas.{by_at}
use Rattle.tk_rows.proofs.SumLemmas.{int_sum-set}
use Rattle.tk_compact.proofs.CompactedLemmas.{compacted_sums}
use Rattle.tk_window.proofs.SumLemmas.{sum_for-append, sum_for-cons}
use Rattle.tk_recent.specs.Kept.{Kept, fresh, noted, opposite, sum_with, taken, ticked, with_last}
use Rattle.tk_watch.specs.Windows.{held, held_by}

-- ---- one window

bare : (s : ℤ) → s ≡ s +ℤ pos 0
bare s = omega (arith, ints)

-- a record more
pub held-noted : (k : Kept) (c : ℕ × ℤ) (o : ℕ) → IsObject (length k.sums) c.0 → IsObject (length k.sums) o → held o (noted k c) ≡ held o k +ℤ by_at o c
held-noted k c o is at =
    let place : ℕ = c.0 - 1 in
    let sum : ℤ = sum_with k.sums c in
    let new = get_or (set k.sums place sum) (o - 1) (pos 0) in
    let old = get_or k.sums (o - 1) (pos 0) in
    let ended = sum_for o (flat_map (λ (tick : List (ℕ × ℤ)). tick) k.ended) in
    let back = sum_for o k.back in
    let low = is.0 in
    let high = is.1 in
    let first = at.0 in
    let moves : new ≡ old +ℤ by_at o c = elim (cases_eq c.0 o) [
      | inl same ↦
          let here : o - 1 ≡ place = omega (arith, same) in
          ap (λ i. get_or (set k.sums place sum) i (pos 0)) here
          ∙ get_or-set_same k.sums place sum (pos 0) (omega (arith, low, high))
          ∙ ap (λ i. get_or k.sums i (pos 0) +ℤ c.1) (sym here)
          ∙ ap (λ s. old +ℤ s) (sym (ap (λ b. cond b c.1 (pos 0)) (eq-eqb c.0 o same)))
      | inr apart ↦
          get_or-set_other k.sums place (o - 1) sum (pos 0) (λ e. apart (omega (arith, e, low, first)))
          ∙ bare old
          ∙ ap (λ s. old +ℤ s) (sym (ap (λ b. cond b c.1 (pos 0)) (ne_eqb c.0 o apart)))
    ] in
    omega (arith, ints, moves)

-- what takes sums back sums to their opposites
opposite_at : (sums : List ℤ) (o : ℕ) → IsObject (length sums) o → sum_for o (opposite sums) ≡ neg_ℤ (get_or sums (o - 1) (pos 0))
unfolding opposite
opposite_at sums o is =
    let low = is.0 in
    let high = is.1 in
    (compacted_sums (map neg_ℤ sums) o low (omega (arith, high, length-map sums neg_ℤ))).0
    ∙ get_or-map neg_ℤ sums (o - 1) (pos 0) (pos 0) (omega (arith, low, high))

-- the end of a tick moves what a window holds, and changes nothing of it
pub held-ticked : (k : Kept) (o : ℕ) → k.back ≡ [] → IsObject (length k.sums) o → held o (ticked k) ≡ held o k
held-ticked k o none is =
    let n : ℕ = length k.sums in
    let low = is.0 in
    let high = is.1 in
    let flat : List (List (ℕ × ℤ)) → List (ℕ × ℤ) = flat_map (λ (tick : List (ℕ × ℤ)). tick) in
    let all = with_last k in
    let over : ℕ = length all - k.width in
    let sum = get_or k.sums (o - 1) (pos 0) in
    let zero_now : get_or (replicate n (pos 0)) (o - 1) (pos 0) ≡ pos 0 = get_or-replicate n (o - 1) (pos 0) (pos 0) (omega (arith, low, high)) in
    let parted : sum_for o (flat all) ≡ sum_for o (flat (take over all)) +ℤ sum_for o (flat (drop over all)) =
    ap (λ (xs : List (List (ℕ × ℤ))). sum_for o (flat xs)) (sym (take-append-drop over all))
    ∙ ap (sum_for o) (flat_map-append (λ (tick : List (ℕ × ℤ)). tick) (take over all) (drop over all))
    ∙ sum_for-append o (flat (take over all)) (flat (drop over all)) in
    let whole : sum_for o (flat all) ≡ sum_for o (flat k.ended) +ℤ neg_ℤ sum =
    ap (sum_for o) (flat_map-append (λ (tick : List (ℕ × ℤ)). tick) k.ended (opposite k.sums ∷ []) ∙ ap (λ (cs : List (ℕ × ℤ)). flat k.ended ++ cs) (append-nil (opposite k.sums)))
    ∙ sum_for-append o (flat k.ended) (opposite k.sums)
    ∙ ap (λ s. sum_for o (flat k.ended) +ℤ s) (opposite_at k.sums o is) in
    let nothing : sum_for o k.back ≡ pos 0 = ap (sum_for o) none in
    omega (arith, ints, zero_now, parted, whole, nothing)

-- a change that was taken back
pub held-taken : (k : Kept) (c : ℕ × ℤ) (rest : List (ℕ × ℤ)) (o : ℕ) → k.back ≡ c ∷ rest → held o (taken k) ≡ held o k +ℤ by_at o c
held-taken k c rest o is =
    let fewer : sum_for o (drop 1 k.back) ≡ sum_for o rest = ap (λ (cs : List (ℕ × ℤ)). sum_for o (drop 1 cs)) is in
    let before : sum_for o k.back ≡ by_at o c +ℤ sum_for o rest = ap (sum_for o) is ∙ sum_for-cons o c rest in
    omega (arith, ints, fewer, before)

-- ---- all of them

-- another one in the place of one
pub held_by-set : (ks : List Kept) (i o : ℕ) (k : Kept) (d : ℤ) → i < length ks → held o k ≡ held o (get_or ks i (fresh 0 0)) +ℤ d → held_by o (set ks i k) ≡ held_by o ks +ℤ d
held_by-set ks i o k d within is =
    let rows = map (held o) ks in
    let inside : i < length rows = omega (arith, within, length-map ks (held o)) in
    let at : get_or rows i (pos 0) ≡ held o (get_or ks i (fresh 0 0)) = get_or-map (held o) ks i (fresh 0 0) (pos 0) within in
    let moved = int_sum-set rows i (held o k) inside in
    let rows_then : held_by o (set ks i k) ≡ int_sum (set rows i (held o k)) = ap int_sum (map-set (held o) ks i k) in
    omega (arith, ints, at, moved, rows_then, is)
