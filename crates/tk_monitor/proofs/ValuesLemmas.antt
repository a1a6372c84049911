-- Values as levels without factors, and the boards that show them.
use Rattle.std.proofs.Common.{◌≡◌, ℕ, ◌<◌, ◌≤◌, ◌+◌, ◌-◌, ◌^◌, List, [], length, map, get_or, set, refl, sym, ap, ◌∙◌, subst, arith, inl, inr}
use Rattle.std.specs.Prelude.{Option, ℤ, pos, ◌+ℤ◌, ◌-ℤ◌, unsigned_abs, replicate}
use Rattle.std.specs.List.{range_with_len}
use Rattle.std.proofs.lemmas.Bool.{cases_eq}
use Rattle.std.proofs.lemmas.Int.{ints}
use Rattle.std.proofs.lemmas.List.{length-set, get_or-set_same, get_or-set_other, length-replicate}
use Rattle.std.proofs.lemmas.List.FromFn.{length-map-range_with_len, get_or-map-range_with_len}
use Rattle.tk_base.specs.Objects.{objects}
use Rattle.tk_border.specs.Levels.{level_at}
use Rattle.tk_trail.proofs.MappedLemmas.{mapped_same}
use Rattle.tk_monitor.specs.Board.{AreLimited, IsBoard, board_of, shifted, values_under}
use Rattle.tk_monitor.specs.Factors.{factor_in, IsWithFactor}
use Rattle.tk_monitor.proofs.BoardLemmas.{all_levels, from_places, limits_set, limits_zero}
use Rattle.tk_monitor.proofs.FactorsLemmas.{own_factor, other_factor}

-- a value under factors
pub value_under : (levels : List ℤ) (kept : List (Option ℤ)) (o : ℕ) → 1 ≤ o → o ≤ length levels → level_at (values_under levels kept) o ≡ level_at levels o -ℤ factor_in kept o
unfolding values_under objects
value_under levels kept o low high = get_or-map-range_with_len (λ q. level_at levels q -ℤ factor_in kept q) 1 (length levels) (o - 1) o (pos 0) (omega arith) (omega arith)

-- they are those over another list of levels and factors, of the same length, with the same differences
pub values_agree : (levels others : List ℤ) (kept now : List (Option ℤ)) → length others ≡ length levels → ((o : ℕ) → 1 ≤ o → o ≤ length levels → level_at others o -ℤ factor_in now o ≡ level_at levels o -ℤ factor_in kept o) → values_under others now ≡ values_under levels kept
unfolding values_under objects
values_agree levels others kept now size same =
    ap (λ n. map (λ o. level_at others o -ℤ factor_in now o) (range_with_len 1 n)) size
    ∙ mapped_same (λ o. level_at levels o -ℤ factor_in kept o) (λ o. level_at others o -ℤ factor_in now o) 1 (length levels) (λ o low high. same o low (omega arith))

-- other lists of the same factors give the same values
pub values_same : (levels : List ℤ) (kept now : List (Option ℤ)) → ((o : ℕ) → factor_in now o ≡ factor_in kept o) → values_under levels now ≡ values_under levels kept
values_same levels kept now same = values_agree levels levels kept now refl (λ o low high. ap (λ (z : ℤ). level_at levels o -ℤ z) (same o))

-- without factors the levels are the values
pub values_none : (n : ℕ) → values_under (replicate n (pos 0)) [] ≡ replicate n (pos 0)
unfolding values_under objects
values_none n =
    let size : length (replicate n (pos 0)) ≡ n = length-replicate n (pos 0) in
    mapped_same (level_at (replicate n (pos 0))) (λ o. level_at (replicate n (pos 0)) o -ℤ pos 0) 1 (length (replicate n (pos 0))) (λ o low high. omega (arith, ints))
    ∙ all_levels (replicate n (pos 0)) (length (replicate n (pos 0))) refl

-- where a function changes at one object
mapped_more : (f g : ℕ → ℤ) (n o : ℕ) → 1 ≤ o → o ≤ n → ((q : ℕ) → 1 ≤ q → (q ≡ o → ⊥) → g q ≡ f q) → map g (range_with_len 1 n) ≡ set (map f (range_with_len 1 n)) (o - 1) (g o)
mapped_more f g n o low high others =
    let before = map f (range_with_len 1 n) in
    let size : length before ≡ n = length-map-range_with_len f 1 n in
    let shape : length (map g (range_with_len 1 n)) ≡ length (set before (o - 1) (g o)) = omega (arith, size, length-map-range_with_len g 1 n, length-set before (o - 1) (g o)) in
    from_places (map g (range_with_len 1 n)) (set before (o - 1) (g o)) shape (λ i within.
    let below : i < n = omega (arith, within, length-map-range_with_len g 1 n) in
    let left : get_or (map g (range_with_len 1 n)) i (pos 0) ≡ g (i + 1) = get_or-map-range_with_len g 1 n i (i + 1) (pos 0) below (omega arith) in
    elim (cases_eq i (o - 1)) [
      | inl same ↦
          left ∙ ap g (let e : i + 1 ≡ o = omega (arith, same) in e)
          ∙ sym (ap (λ k. get_or (set before (o - 1) (g o)) k (pos 0)) same ∙ get_or-set_same before (o - 1) (g o) (pos 0) (omega (arith, size)))
      | inr apart ↦
          left ∙ others (i + 1) (omega arith) (λ e. apart (omega (arith, e)))
          ∙ sym (get_or-set_other before (o - 1) i (g o) (pos 0) apart ∙ get_or-map-range_with_len f 1 n i (i + 1) (pos 0) below (omega arith))
    ])

values_moved : (levels : List ℤ) (kept : List (Option ℤ)) (o : ℕ) (level : ℤ) → 1 ≤ o → o ≤ length levels → values_under (set levels (o - 1) level) kept ≡ set (values_under levels kept) (o - 1) (level_at (set levels (o - 1) level) o -ℤ factor_in kept o)
unfolding values_under objects
values_moved levels kept o level low high =
    ap (λ n. map (λ q. level_at (set levels (o - 1) level) q -ℤ factor_in kept q) (range_with_len 1 n)) (length-set levels (o - 1) level)
    ∙ mapped_more (λ q. level_at levels q -ℤ factor_in kept q) (λ q. level_at (set levels (o - 1) level) q -ℤ factor_in kept q) (length levels) o low high
    (λ q from apart. ap (λ (z : ℤ). z -ℤ factor_in kept q) (get_or-set_other levels (o - 1) (q - 1) level (pos 0) (λ e. apart (omega (arith, e)))))

-- a level that moves takes its value along
pub values_shifted : (levels : List ℤ) (kept : List (Option ℤ)) (o : ℕ) (by : ℤ) → 1 ≤ o → o ≤ length levels → values_under (set levels (o - 1) (level_at levels o +ℤ by)) kept ≡ set (values_under levels kept) (o - 1) (level_at (values_under levels kept) o +ℤ by)
values_shifted levels kept o by low high =
    let is = value_under levels kept o low high in
    let new : level_at (set levels (o - 1) (level_at levels o +ℤ by)) o ≡ level_at levels o +ℤ by = get_or-set_same levels (o - 1) (level_at levels o +ℤ by) (pos 0) (omega arith) in
    let moved : level_at (set levels (o - 1) (level_at levels o +ℤ by)) o -ℤ factor_in kept o ≡ level_at (values_under levels kept) o +ℤ by = omega (arith, ints, is, new) in
    values_moved levels kept o (level_at levels o +ℤ by) low high
    ∙ ap (λ (z : ℤ). set (values_under levels kept) (o - 1) z) moved

-- a factor that moves with its level leaves the values
pub values_stay : (levels : List ℤ) (kept now : List (Option ℤ)) (o : ℕ) (factor by : ℤ) → 1 ≤ o → o ≤ length levels → IsWithFactor kept o factor now → factor_in kept o +ℤ by ≡ factor → values_under (set levels (o - 1) (level_at levels o +ℤ by)) now ≡ values_under levels kept
values_stay levels kept now o factor by low high is sum =
    let level = level_at levels o +ℤ by in
    values_agree levels (set levels (o - 1) level) kept now (length-set levels (o - 1) level) (λ q from within.
    elim (cases_eq q o) [
      | inl same ↦
          let new : level_at (set levels (o - 1) level) q ≡ level = ap (λ k. level_at (set levels (o - 1) level) k) same ∙ get_or-set_same levels (o - 1) level (pos 0) (omega arith) in
          let own : factor_in now q ≡ factor = ap (factor_in now) same ∙ own_factor kept now o factor is in
          let old : level_at levels q -ℤ factor_in kept q ≡ level_at levels o -ℤ factor_in kept o = ap (λ k. level_at levels k -ℤ factor_in kept k) same in
          omega (arith, ints, new, own, old, sum)
      | inr apart ↦
          let still : level_at (set levels (o - 1) level) q ≡ level_at levels q = get_or-set_other levels (o - 1) (q - 1) level (pos 0) (λ e. apart (omega (arith, e))) in
          let other : factor_in now q ≡ factor_in kept q = other_factor kept now o q factor is apart in
          omega (arith, ints, still, other)
    ])

-- a board of zeros
pub board_zero : (n : ℕ) (levels : List ℤ) (kept : List (Option ℤ)) (members : List ℕ) → n ≤ 65536 → levels ≡ replicate n (pos 0) → kept ≡ [] → members ≡ [] → IsBoard (board_of levels kept members)
board_zero n levels kept members few is none nobody =
    rw (is, none, nobody) (record {
      limits = subst (λ (values : List ℤ). AreLimited values (replicate n (pos 0))) (sym (values_none n)) (limits_zero n few);
      members = λ k d below. absurd (omega arith);
    })

pub view_zero : (n : ℕ) (levels : List ℤ) (kept : List (Option ℤ)) (members : List ℕ) → levels ≡ replicate n (pos 0) → kept ≡ [] → members ≡ [] → board_of levels kept members ≡ record { values = replicate n (pos 0); levels = replicate n (pos 0); members = [] }
view_zero n levels kept members is none nobody =
    rw (is, none, nobody) (ap (λ (values : List ℤ). record { values = values; levels = replicate n (pos 0); members = [] }) (values_none n))

-- a board once a level moved
pub board_shifted : (levels : List ℤ) (kept : List (Option ℤ)) (members : List ℕ) (o : ℕ) (by : ℤ) → IsBoard (board_of levels kept members) → 1 ≤ o → o ≤ length levels → unsigned_abs (level_at (values_under levels kept) o +ℤ by) ≤ 2 ^ 100 → IsBoard (board_of (set levels (o - 1) (level_at levels o +ℤ by)) kept members)
board_shifted levels kept members o by is low high small =
    let level = level_at levels o +ℤ by in
    let value = level_at (values_under levels kept) o +ℤ by in
    record {
      limits = subst (λ (values : List ℤ). AreLimited values (set levels (o - 1) level)) (sym (values_shifted levels kept o by low high))
          (limits_set (values_under levels kept) levels (o - 1) value level is.limits (omega arith) small (omega (arith, ints, is.limits.factor_size o)));
      members = λ k d below. omega (arith, length-set levels (o - 1) level, is.members k d below);
    }

pub view_shifted : (levels : List ℤ) (kept : List (Option ℤ)) (members : List ℕ) (o : ℕ) (by : ℤ) → 1 ≤ o → o ≤ length levels → board_of (set levels (o - 1) (level_at levels o +ℤ by)) kept members ≡ shifted (board_of levels kept members) (o, by)
view_shifted levels kept members o by low high =
    ap (λ (values : List ℤ). record { values = values; levels = set levels (o - 1) (level_at levels o +ℤ by); members = members }) (values_shifted levels kept o by low high)

-- a board with other lists of the same factors
pub view_same : (levels : List ℤ) (kept now : List (Option ℤ)) (members : List ℕ) → ((o : ℕ) → factor_in now o ≡ factor_in kept o) → board_of levels now members ≡ board_of levels kept members
view_same levels kept now members same =
    ap (λ (values : List ℤ). record { values = values; levels = levels; members = members }) (values_same levels kept now same)

-- a board of equal parts
pub board_made : (levels others values : List ℤ) (kept : List (Option ℤ)) (members os : List ℕ) → values_under levels kept ≡ values → levels ≡ others → members ≡ os → board_of levels kept members ≡ record { values = values; levels = others; members = os }
board_made levels others values kept members os of_values of_levels of_members = cc
