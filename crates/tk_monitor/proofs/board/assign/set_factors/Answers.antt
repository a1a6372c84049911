use Rattle.std.proofs.Common.{◌≡◌, ℕ, ◌-◌, ◌^◌, ◌∙◌, List, length, take, refl, subst, arith, ap, sym, to_z, of_z}
use Rattle.std.specs.Prelude.{ℤ, ◌+ℤ◌, ◌-ℤ◌, FitsSigned, slice_set}
use Rattle.std.specs.Int.{w128}
use Rattle.std.proofs.lemmas.Int.{ints, to_z-of_z}
use Rattle.tk_rank.specs.Rank.{RankView}
use Rattle.tk_border.specs.Levels.{level_at}
use Rattle.tk_monitor.specs.Board.{AreLimited, values_under}
use Rattle.tk_monitor.specs.Factors.{factor_in, HasFactor, IsWithFactor}
use Rattle.tk_monitor.proofs.BoardLemmas.{assigned_none, assigned_more, length-assigned, change_within, change_small, change_from_one, limits_level}
use Rattle.tk_monitor.proofs.ValuesLemmas.{value_under, values_stay}
use Rattle.tk_monitor.proofs.FactorsLemmas.{got_all, with_still}
use Rattle.tk_monitor.proofs.board.assign.set_factors.Goals as goal

pub loop-i-init : goal.loop-i-init
loop-i-init c =
    let now = c.args.rank.now in
    record {
      rank = ap (λ (levels : List ℤ). record now { levels = levels }) (sym (assigned_none (values_under now.levels c.args.factors.now) now.levels));
      limits = c.requires.limits;
      values = refl;
      kept = λ o there. there;
    }

pub replace-before-requires-clause-kept : goal.replace-before-requires-clause-kept
replace-before-requires-clause-kept c =
    let change : ℕ × ℤ = (c.at-factor.result.0.0, c.at-factor.result.1) in
    c.loop-i.invariant.kept change.0 (got_all (λ p. HasFactor c.args.factors.now p.0) c.args.changes.now c.loop-i.i change c.requires.kept c.at-factor.ensures.value)

pub replace-before-requires-clause-size : goal.replace-before-requires-clause-size
replace-before-requires-clause-size c =
    let fits : FitsSigned w128 c.at-factor.result.1 = omega (arith, ints) in
    rw (to_z-of_z w128 c.at-factor.result.1 fits)
    (change_small c.args.changes.now (2 ^ 112) c.loop-i.i (c.at-factor.result.0.0, c.at-factor.result.1) c.requires.changes.small c.at-factor.ensures.value)

pub overflow_sub-factor : goal.overflow_sub-factor
overflow_sub-factor c =
    let small = change_small c.args.changes.now (2 ^ 112) c.loop-i.i (c.at-factor.result.0.0, c.at-factor.result.1) c.requires.changes.small c.at-factor.ensures.value in
    omega (arith, ints, small, c.replace-before.ensures.size)

size-is : (c : goal.After-shift-arg-1) → length c.loop-i.rank.levels ≡ length c.args.rank.now.levels
size-is c =
    let now = c.args.rank.now in
    ap (λ (r : RankView). length r.levels) c.loop-i.invariant.rank ∙ length-assigned (values_under now.levels c.args.factors.now) now.levels (take c.loop-i.i c.args.changes.now)

pub shift-requires-clause-from_one : goal.shift-requires-clause-from_one
shift-requires-clause-from_one c =
    omega (arith, change_from_one c.args.changes.now c.loop-i.i (c.at-factor.result.0.0, c.at-factor.result.1) c.len-i-end.ensures.ascends c.at-factor.ensures.value)

pub shift-requires-clause-within : goal.shift-requires-clause-within
shift-requires-clause-within c =
    let high = change_within c.args.changes.now (length c.args.rank.now.levels) c.loop-i.i (c.at-factor.result.0.0, c.at-factor.result.1) c.requires.changes.within c.at-factor.ensures.value in
    omega (arith, size-is c, high)

-- the level that is set: the value and the new factor
moved-is : (c : goal.After-shift-arg-1) → level_at c.loop-i.rank.levels c.at-factor.result.0.0 +ℤ to_z w128 (of_z w128 (to_z w128 (of_z w128 c.at-factor.result.1) -ℤ to_z w128 (of_z w128 c.replace-before.result))) ≡ level_at (values_under c.loop-i.rank.levels c.loop-i.factors) c.at-factor.result.0.0 +ℤ c.at-factor.result.1
moved-is c =
    let change : ℕ × ℤ = (c.at-factor.result.0.0, c.at-factor.result.1) in
    let small = change_small c.args.changes.now (2 ^ 112) c.loop-i.i change c.requires.changes.small c.at-factor.ensures.value in
    let by : to_z w128 (of_z w128 (to_z w128 (of_z w128 change.1) -ℤ to_z w128 (of_z w128 c.replace-before.result))) ≡ change.1 -ℤ factor_in c.loop-i.factors change.0 =
    omega (arith, ints, small, c.replace-before.ensures.before, c.replace-before.ensures.size) in
    let low = change_from_one c.args.changes.now c.loop-i.i change c.len-i-end.ensures.ascends c.at-factor.ensures.value in
    let high = change_within c.args.changes.now (length c.args.rank.now.levels) c.loop-i.i change c.requires.changes.within c.at-factor.ensures.value in
    let value = value_under c.loop-i.rank.levels c.loop-i.factors change.0 low (omega (arith, size-is c, high)) in
    omega (arith, ints, by, value)

pub shift-requires-clause-size : goal.shift-requires-clause-size
shift-requires-clause-size c =
    let change : ℕ × ℤ = (c.at-factor.result.0.0, c.at-factor.result.1) in
    let small = change_small c.args.changes.now (2 ^ 112) c.loop-i.i change c.requires.changes.small c.at-factor.ensures.value in
    rw (moved-is c) (omega (arith, ints, small, c.loop-i.invariant.limits.value_size change.0))

pub loop-i-preserved : goal.loop-i-preserved
loop-i-preserved c =
    let now = c.args.rank.now in
    let values = values_under now.levels c.args.factors.now in
    let changes = c.args.changes.now in
    let i = c.loop-i.i in
    let change : ℕ × ℤ = (c.at-factor.result.0.0, c.at-factor.result.1) in
    let o = change.0 in
    let levels = c.loop-i.rank.levels in
    let kept = c.loop-i.factors in
    let set = c.replace-before.new.self in
    let fits : FitsSigned w128 change.1 = omega (arith, ints) in
    let small = change_small changes (2 ^ 112) i change c.requires.changes.small c.at-factor.ensures.value in
    let by : to_z w128 (of_z w128 (to_z w128 (of_z w128 change.1) -ℤ to_z w128 (of_z w128 c.replace-before.result))) ≡ change.1 -ℤ factor_in kept o =
    omega (arith, ints, small, c.replace-before.ensures.before, c.replace-before.ensures.size) in
    let low = change_from_one changes i change c.len-i-end.ensures.ascends c.at-factor.ensures.value in
    let high = change_within changes (length now.levels) i change c.requires.changes.within c.at-factor.ensures.value in
    let size : length levels ≡ length now.levels = ap (λ (r : RankView). length r.levels) c.loop-i.invariant.rank ∙ length-assigned values now.levels (take i changes) in
    let value = value_under levels kept o low (omega (arith, size, high)) in
    let level : level_at levels o +ℤ (change.1 -ℤ factor_in kept o) ≡ level_at values o +ℤ change.1 =
    omega (arith, ints, value, ap (λ (vs : List ℤ). level_at vs o) c.loop-i.invariant.values) in
    let with : IsWithFactor kept o change.1 set = subst (λ (z : ℤ). IsWithFactor kept o z set) (to_z-of_z w128 change.1 fits) c.replace-before.ensures.new in
    let moved : c.shift.new.self ≡ record c.loop-i.rank { levels = slice_set levels (o - 1) (level_at levels o +ℤ (change.1 -ℤ factor_in kept o)) } =
    c.shift.ensures ∙ ap (λ (z : ℤ). record c.loop-i.rank { levels = slice_set levels (o - 1) (level_at levels o +ℤ z) }) by in
    let stay : values_under c.shift.new.self.levels set ≡ values_under levels kept =
    ap (λ (r : RankView). values_under r.levels set) moved
    ∙ values_stay levels kept set o change.1 (change.1 -ℤ factor_in kept o) low (omega (arith, size, high)) with (omega (arith, ints)) in
    record {
      rank =
          moved
          ∙ ap (λ (z : ℤ). record c.loop-i.rank { levels = slice_set levels (o - 1) z }) level
          ∙ ap (λ (r : RankView). record r { levels = slice_set r.levels (o - 1) (level_at values o +ℤ change.1) }) c.loop-i.invariant.rank
          ∙ ap (λ (xs : List ℤ). record now { levels = xs }) (assigned_more values now.levels changes i change c.len-i-end.ensures.ascends c.at-factor.ensures.value low high);
      limits =
          let kept_limits = limits_level (values_under levels kept) levels (o - 1) (level_at levels o +ℤ (change.1 -ℤ factor_in kept o)) c.loop-i.invariant.limits (omega (arith, size, low, high)) (omega (arith, ints, small, value)) in
          subst (λ (vs : List ℤ). AreLimited vs c.shift.new.self.levels) (sym stay)
          (subst (λ (r : RankView). AreLimited (values_under levels kept) r.levels) (sym moved) kept_limits);
      values = stay ∙ c.loop-i.invariant.values;
      kept = λ q there. with_still kept set o change.1 with q (c.loop-i.invariant.kept q there);
    }
