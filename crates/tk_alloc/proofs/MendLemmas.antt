-- After a short round on present values nothing is broken at the reporter.
use Rattle.std.proofs.Common.{◌≡◌, ℕ, ◌+◌, ◌≤◌, ℤ, false, List, [], ◌∷◌, length, Contains, sym, ◌∙◌, arith, inl, inr}
use Rattle.std.proofs.lemmas.Int.{ints}
use Rattle.std.proofs.lemmas.Bool.{cases_Bool, true≢false}
use Rattle.std.proofs.lemmas.List.Elements.{All-contains}
use Rattle.tk_base.specs.Objects.{objects, is_in}
use Rattle.tk_base.specs.Pairs.{objects_of}
use Rattle.tk_base.specs.Settings.{Setup}
use Rattle.tk_base.proofs.MemberLemmas.{contained_is_in, is_in_contained}
use Rattle.tk_rows.specs.Factors.{Grid}
use Rattle.tk_share.proofs.ShareLemmas.{share_grows, share_of_no_debt}
use Rattle.tk_alloc.specs.declared.reported.Reported.{Reported}
use Rattle.tk_alloc.specs.Parts.{leeway}
use Rattle.tk_alloc.specs.Resolving.{round_parts}
use Rattle.tk_alloc.proofs.LeewayLemmas.{weights_in}
use Rattle.tk_alloc.proofs.RoundLemmas.{present_no_debt}
use Rattle.tk_alloc.proofs.ShortLemmas.{one_takes}
use Rattle.tk_alloc.specs.Rounds.{chosen, total, wide_parts}
use Rattle.tk_alloc.proofs.PickLemmas.{picked_of}
use Rattle.tk_alloc.specs.Limit.{CanWiden}
use Rattle.tk_alloc.proofs.WideLemmas.{in_catalogue, of_catalogue, wide_order_kept}
use Rattle.tk_alloc.specs.Strain.{IsShortNow, IsWideNow, is_strained}
use Rattle.tk_alloc.proofs.CalmLemmas.{calm_from, border_bounds}

pub short_mends : (setup : Setup) (grid : Grid) (present : List ℕ) (report : Reported) (levels after : List ℤ) → IsShortNow setup grid present report levels after → is_strained after present ≡ false
short_mends setup grid present report levels after h = calm_from after present h.some (λ t o t_in out from_one within.
    let all = objects_of report.values in
    let parts = round_parts setup grid present present all (report ∷ []) in
    let weights = weights_in parts in
    let among : (q : ℕ) → Contains present q → Contains all q = λ q in'. All-contains (Contains all) present q h.ready.members in' in
    let t_within : t ≤ length levels = (let bound = All-contains (λ q. q ≤ setup.objects) all t h.ready.within (among t t_in) in let c = h.count in let n = h.ready.size.objects in omega (arith, bound, c, n)) in
    let o_within : o ≤ length levels = (let c = h.levelled.count in omega (arith, within, c)) in
    let level_t = h.levelled.new t (h.positive t t_in) t_within (among t t_in) in
    let fair = share_of_no_debt weights 1 (leeway grid parts t) (present_no_debt setup grid present present all (report ∷ []) t h.ready (one_takes grid present report h.takes) t_in t_in) in
    elim (cases_Bool (is_in all o)) [
      | inl here ↦
          let o_in = is_in_contained all o here in
          let more = share_grows weights 1 (leeway grid parts o) (leeway grid parts t) (h.test t o t_in out o_in) in
          let level_o = h.levelled.new o from_one o_within o_in in
          omega (arith, ints, more, level_t, level_o)
      | inr gone ↦
          let missing : Contains all o → ⊥ = λ found. true≢false (sym (contained_is_in all o found) ∙ gone) in
          let level_o = h.levelled.old o from_one o_within missing in
          let low = border_bounds levels present all o h.some from_one o_within among h.now.broken missing in
          let border = h.now.border in
          omega (arith, ints, fair, level_t, level_o, low, border)
    ])

-- after a wide round on present values nothing is broken at any monitor
pub wide_mends : (setup : Setup) (grid : Grid) (present : List ℕ) (reports : List Reported) (place : ℕ) (report : Reported) (after : List ℤ) → IsWideNow setup grid present reports place report after
    → is_strained after (chosen setup present reports (objects setup.objects)) ≡ false
wide_mends setup grid present reports place report after h =
    let members = chosen setup present reports (objects setup.objects) in
    let called : CanWiden setup grid reports = record { limits = h.limits; size = h.size; balanced = h.balanced; reported = h.reported } in
    let parts = wide_parts setup members reports in
    calm_from after members h.some (λ t o t_in out from_one within.
    let o_within : o ≤ setup.objects = (let c = h.count in omega (arith, within, c)) in
    let range = of_catalogue setup.objects t (picked_of (total reports) present (objects setup.objects) setup.k t t_in) in
    let more = share_grows (weights_in parts) (1 + place) (leeway grid parts o) (leeway grid parts t) (wide_order_kept setup grid present reports t o called t_in out (in_catalogue setup.objects o from_one o_within)) in
    let level_t = h.dealt t range.0 range.1 in
    let level_o = h.dealt o from_one o_within in
    omega (arith, ints, more, level_t, level_o))
