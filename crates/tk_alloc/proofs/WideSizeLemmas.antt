-- How great the leeways, the new factors and the totals of a wide round can be.
use Rattle.std.proofs.Common.{ℕ, ◌+◌, ◌*◌, ◌^◌, ◌<◌, ◌≤◌, ℤ, pos, unsigned_abs, List, [], ◌∷◌, length, map, get_or, Contains, arith}
use Rattle.std.specs.List.{All, enumerate_from}
use Rattle.std.proofs.lemmas.Int.{ints}
use Rattle.std.proofs.lemmas.List.{get_or_default}
use Rattle.std.proofs.lemmas.List.Elements.{All-cons, All-head, All-nil, All-tail}
use Rattle.tk_base.specs.Objects.{objects, is_in}
use Rattle.tk_base.specs.Settings.{Setup}
use Rattle.tk_rows.specs.Factors.{Grid}
use Rattle.tk_share.proofs.ShareLemmas.{share_size}
use Rattle.tk_alloc.specs.declared.reported.Reported.{Reported}
use Rattle.tk_alloc.specs.Limit.{AreSized, AreTotalsSized, CanWiden}
use Rattle.tk_alloc.specs.Parts.{Part, leeway, monitor, new_factor, value_of}
use Rattle.tk_alloc.specs.Rounds.{AreValues, chosen, total, wide_parts}
use Rattle.tk_alloc.proofs.LeewayLemmas.{weights_in}
use Rattle.tk_alloc.proofs.WideLemmas.{leeway_size, slight_own, total_size, value_size, wide_count, wide_own}

-- the new factors at the monitors
monitors_small : (grid : Grid) (parts : List Part) (all : List ℕ) (first : ℕ) (reports : List Reported) (o : ℕ) → All (λ r. AreValues all r.values) reports
    → unsigned_abs (leeway grid parts o) ≤ 65 * 2 ^ 100 → All (λ (e : ℕ × Part). unsigned_abs (new_factor grid parts e.0 e.1 o) < 2 ^ 122) (enumerate_from first (map (monitor (pos 0)) reports))
monitors_small grid parts all first [] o are small = All-nil (λ (e : ℕ × Part). unsigned_abs (new_factor grid parts e.0 e.1 o) < 2 ^ 122)
monitors_small grid parts all first (r ∷ reports) o are small =
    let here : AreValues all r.values = All-head (λ (q : Reported). AreValues all q.values) r reports are in
    All-cons (λ (e : ℕ × Part). unsigned_abs (new_factor grid parts e.0 e.1 o) < 2 ^ 122) (first, monitor (pos 0) r) (enumerate_from (first + 1) (map (monitor (pos 0)) reports))
    (omega (arith, ints, small, share_size (weights_in parts) first (leeway grid parts o), value_size r.values o here.small))
    (monitors_small grid parts all (first + 1) reports o (All-tail (λ (q : Reported). AreValues all q.values) r reports are) small)

-- no leeway and no new factor of a wide round leaves 128 bits
pub wide_is_sized : (setup : Setup) (grid : Grid) (present : List ℕ) (reports : List Reported) → CanWiden setup grid reports
    → AreSized grid (wide_parts setup (chosen setup present reports (objects setup.objects)) reports) (objects setup.objects)
wide_is_sized setup grid present reports w =
    let all = objects setup.objects in
    let own = wide_own setup present reports in
    let parts = own ∷ map (monitor (pos 0)) reports in
    record {
      leeways = λ k e within.
          let o = get_or all k e in
          let small = leeway_size setup grid present reports o w (k, within, get_or_default all k o e within) in
          omega (arith, small);
      factors = λ k e within.
          let o = get_or all k e in
          let of : Contains all o = (k, within, get_or_default all k o e within) in
          let small = leeway_size setup grid present reports o w of in
          let first = slight_own setup grid present reports o w of in
          All-cons (λ (x : ℕ × Part). unsigned_abs (new_factor grid parts x.0 x.1 o) < 2 ^ 122) (0, own) (enumerate_from 1 (map (monitor (pos 0)) reports))
          (omega (arith, first))
          (monitors_small grid parts all 1 reports o w.reported.values small);
    }

-- and no total
pub totals_are_sized : (setup : Setup) (grid : Grid) (reports : List Reported) → CanWiden setup grid reports → AreTotalsSized reports (objects setup.objects)
totals_are_sized setup grid reports w k e within =
    let all = objects setup.objects in
    let few : length reports ≤ 64 = omega (arith, wide_count setup grid [] reports w, w.limits.monitors) in
    let size = total_size all reports (get_or all k e) w.reported.values in
    omega (arith, few, size)
