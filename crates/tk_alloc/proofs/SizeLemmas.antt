-- How great the leeways and the new factors of a short or a full round can be.
use Rattle.std.proofs.Common.{ℕ, ◌+◌, ◌*◌, ◌^◌, ◌<◌, ◌≤◌, ℤ, unsigned_abs, List, [], ◌∷◌, length, map, get_or, Contains, sym, subst, arith}
use Rattle.std.specs.List.{All, enumerate_from}
use Rattle.std.proofs.lemmas.Int.{ints}
use Rattle.std.proofs.lemmas.List.{get_or_default}
use Rattle.std.proofs.lemmas.List.Elements.{All-cons, All-head, All-nil, All-tail}
use Rattle.tk_base.specs.Objects.{is_in}
use Rattle.tk_base.specs.Settings.{Setup, IsWithinLimits}
use Rattle.tk_base.specs.Sum.{int_sum}
use Rattle.tk_base.proofs.SumLemmas.{int_sum-cons}
use Rattle.tk_rows.specs.Factors.{Grid, AreBalanced}
use Rattle.tk_share.proofs.ShareLemmas.{share_size}
use Rattle.tk_alloc.specs.declared.reported.Reported.{Reported}
use Rattle.tk_alloc.specs.Limit.{AreSized, CanDeal}
use Rattle.tk_alloc.specs.Parts.{Part, above, leeway, monitor, new_factor, value_of}
use Rattle.tk_alloc.specs.Resolving.{CanTakePart, IsReady, round_parts}
use Rattle.tk_alloc.proofs.AskedLemmas.{report_border}
use Rattle.tk_alloc.proofs.BorderLemmas.{border_size, factor_size}
use Rattle.tk_alloc.proofs.LeewayLemmas.{weights_in}
use Rattle.tk_alloc.proofs.RoundLemmas.{bordered, own_part, own_value_is}
use Rattle.tk_alloc.proofs.WideLemmas.{extra_size, value_size}

-- how far the levels at the monitors can be above their borders
above_size : (setup : Setup) (grid : Grid) (present all : List ℕ) (reports : List Reported) (o : ℕ) → IsReady setup grid present all → IsWithinLimits setup → AreBalanced grid → All (CanTakePart grid present all) reports
    → unsigned_abs (int_sum (map (above grid o) (bordered reports))) ≤ length reports * 2 ^ 114
above_size setup grid present all [] o ready limits balanced take = omega arith
above_size setup grid present all (r ∷ reports) o ready limits balanced take =
    let here : CanTakePart grid present all r = All-head (CanTakePart grid present all) r reports take in
    let rest = above_size setup grid present all reports o ready limits balanced (All-tail (CanTakePart grid present all) r reports take) in
    omega (
      arith,
      ints,
      rest,
      report_border setup grid present all r ready limits balanced here,
      value_size r.values o here.values.small,
      factor_size grid r.mon.0 o balanced,
      int_sum-cons (above grid o (monitor r.border r)) (map (above grid o) (bordered reports)),
    )

own_size : (setup : Setup) (grid : Grid) (present members all : List ℕ) (o : ℕ) → IsWithinLimits setup → Contains all o → unsigned_abs (value_of (own_part setup grid present members all).values o) ≤ 2 ^ 100
own_size setup grid present members all o limits of =
    subst (λ (z : ℤ). unsigned_abs z ≤ 2 ^ 100) (sym (own_value_is setup grid present members all o of)) (extra_size (is_in members o) setup.epsilon limits.no_debt limits.epsilon)

leeway_small : (setup : Setup) (grid : Grid) (present members all : List ℕ) (reports : List Reported) (o : ℕ) → CanDeal setup grid present all reports → Contains all o
    → unsigned_abs (leeway grid (round_parts setup grid present members all reports) o) ≤ 65 * 2 ^ 114
unfolding leeway
leeway_small setup grid present members all reports o d of =
    let own = own_part setup grid present members all in
    omega (
      arith,
      ints,
      above_size setup grid present all reports o d.ready d.limits d.balanced d.take,
      own_size setup grid present members all o d.limits of,
      factor_size grid 0 o d.balanced,
      border_size setup grid present all d.ready d.limits d.balanced,
      d.count,
      d.limits.monitors,
      int_sum-cons (above grid o own) (map (above grid o) (bordered reports)),
    )

monitors_small : (setup : Setup) (grid : Grid) (present all : List ℕ) (parts : List Part) (first : ℕ) (reports : List Reported) (o : ℕ) → IsReady setup grid present all → IsWithinLimits setup → AreBalanced grid → All (CanTakePart grid present all) reports
    → unsigned_abs (leeway grid parts o) ≤ 65 * 2 ^ 114 → All (λ (e : ℕ × Part). unsigned_abs (new_factor grid parts e.0 e.1 o) < 2 ^ 122) (enumerate_from first (bordered reports))
monitors_small setup grid present all parts first [] o ready limits balanced take small = All-nil (λ (e : ℕ × Part). unsigned_abs (new_factor grid parts e.0 e.1 o) < 2 ^ 122)
monitors_small setup grid present all parts first (r ∷ reports) o ready limits balanced take small =
    let here : CanTakePart grid present all r = All-head (CanTakePart grid present all) r reports take in
    All-cons (λ (e : ℕ × Part). unsigned_abs (new_factor grid parts e.0 e.1 o) < 2 ^ 122) (first, monitor r.border r) (enumerate_from (first + 1) (bordered reports))
    (omega (arith, ints, small, share_size (weights_in parts) first (leeway grid parts o), report_border setup grid present all r ready limits balanced here, value_size r.values o here.values.small))
    (monitors_small setup grid present all parts (first + 1) reports o ready limits balanced (All-tail (CanTakePart grid present all) r reports take) small)

pub rounds_are_sized : (setup : Setup) (grid : Grid) (present members all : List ℕ) (reports : List Reported) → CanDeal setup grid present all reports → AreSized grid (round_parts setup grid present members all reports) all
rounds_are_sized setup grid present members all reports d =
    let parts = round_parts setup grid present members all reports in
    let own = own_part setup grid present members all in
    record {
      leeways = λ k e within.
          let o = get_or all k e in
          let small = leeway_small setup grid present members all reports o d (k, within, get_or_default all k o e within) in
          omega (arith, small);
      factors = λ k e within.
          let o = get_or all k e in
          let of : Contains all o = (k, within, get_or_default all k o e within) in
          let small = leeway_small setup grid present members all reports o d of in
          All-cons (λ (x : ℕ × Part). unsigned_abs (new_factor grid parts x.0 x.1 o) < 2 ^ 122) (0, own) (enumerate_from 1 (bordered reports))
          (omega (arith, ints, small, share_size (weights_in parts) 0 (leeway grid parts o), border_size setup grid present all d.ready d.limits d.balanced, own_size setup grid present members all o d.limits of))
          (monitors_small setup grid present all parts 1 reports o d.ready d.limits d.balanced d.take small);
    }
