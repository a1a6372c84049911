-- What holds after a wide round.
use Rattle.std.proofs.Common.{◌≡◌, ℕ, suc, ◌+◌, ◌-◌, ◌*◌, ◌^◌, ◌<◌, ◌≤◌, ℤ, pos, ◌+ℤ◌, ◌≤ℤ◌, unsigned_abs, List, [], ◌∷◌, length, map, get_or, Contains, Option, Some, Bool, true, false, cond, if◌then◌else◌, refl, sym, ap, ◌∙◌, subst, arith, eq-eqb, ne_eqb, inl, inr}
use Rattle.std.specs.Prelude.{unwrap_or}
use Rattle.std.specs.List.{All, range_with_len, sum}
use Rattle.std.proofs.lemmas.Int.{ints}
use Rattle.std.proofs.lemmas.Bool.{cases_eq}
use Rattle.std.proofs.lemmas.List.{length-map, get_or-map, get_or_default, map-id}
use Rattle.std.proofs.lemmas.List.FromFn.{fill_by_all, length-range_with_len, get_or-range_with_len}
use Rattle.std.proofs.lemmas.List.Elements.{All-head, All-tail, All-map}
use Rattle.std.proofs.lemmas.List.Sums.{sum_by-cons}
use Rattle.tk_base.specs.Ascending.{IsAscending}
use Rattle.tk_base.specs.Objects.{objects, is_in}
use Rattle.tk_base.specs.Pairs.{objects_of, value_at}
use Rattle.tk_base.specs.Settings.{Setup, IsWithinLimits}
use Rattle.tk_base.specs.Sum.{int_sum}
use Rattle.tk_base.proofs.PairsLemmas.{objects_paired}
use Rattle.tk_base.proofs.SumLemmas.{int_sum-cons}
use Rattle.tk_base.proofs.MemberLemmas.{contained_is_in, outside_is_not_in}
use Rattle.tk_rows.specs.declared.reallocation.Reallocation.{Reallocation}
use Rattle.tk_rows.specs.Factors.{Grid, factor_at, row_of, IsFactor, IsBalanced, AreBalanced}
use Rattle.tk_rows.specs.Replacing.{IsReplacement, factor_in, changes_at}
use Rattle.tk_rows.proofs.WritingLemmas.{AreApart, ascending_are_apart}
use Rattle.tk_share.proofs.ShareLemmas.{share_size, share_grows}
use Rattle.tk_alloc.specs.declared.reported.Reported.{Reported}
use Rattle.tk_alloc.specs.Limit.{CanWiden}
use Rattle.tk_alloc.specs.Parts.{Part, coordinator, monitor, value_of, leeway, new_factor, IsReallocation}
use Rattle.tk_alloc.specs.Pick.{picked}
use Rattle.tk_alloc.specs.Rounds.{IsOfSize, AreValues, AreReports, total, totals, chosen, wide_parts, factor_after, KeepsOwn, KeepsLevels, AreSlight}
use Rattle.tk_alloc.specs.declared.terms.Borders.TheVariants.{Zero}
use Rattle.tk_alloc.specs.Terms.{AreTerms, parts_of}
use Rattle.tk_alloc.proofs.AscentLemmas.{ascending_range}
use Rattle.tk_alloc.proofs.LeewayLemmas.{value_put, base, split_above, weights_in}
use Rattle.tk_alloc.proofs.ReplacementLemmas.{AreBounded, ArePlaced, is_replacement, bounded_at, bounded_own, own_after, at_after}
use Rattle.tk_alloc.proofs.PickLemmas.{picked_greatest, picked_of}

-- ---- sizes

pub value_size : (values : List (ℕ × ℤ)) (o : ℕ) → All (λ p. unsigned_abs p.1 ≤ 2 ^ 100) values → unsigned_abs (value_of values o) ≤ 2 ^ 100
value_size [] o small = omega arith
value_size (p ∷ values) o small = elim (cases_eq p.0 o) [
  | inl same ↦
      subst (λ b. unsigned_abs (unwrap_or (cond b (Some p.1) (value_at values o)) (pos 0)) ≤ 2 ^ 100) (sym (eq-eqb p.0 o same)) (All-head (λ (q : ℕ × ℤ). unsigned_abs q.1 ≤ 2 ^ 100) p values small)
  | inr other ↦
      subst (λ b. unsigned_abs (unwrap_or (cond b (Some p.1) (value_at values o)) (pos 0)) ≤ 2 ^ 100) (sym (ne_eqb p.0 o other)) (value_size values o (All-tail (λ (q : ℕ × ℤ). unsigned_abs q.1 ≤ 2 ^ 100) p values small))
]

pub total_size : (objects : List ℕ) (reports : List Reported) (o : ℕ) → All (λ r. AreValues objects r.values) reports → unsigned_abs (total reports o) ≤ length reports * 2 ^ 100
total_size objects [] o are = omega arith
total_size objects (r ∷ reports) o are =
    let here : AreValues objects r.values = All-head (λ (q : Reported). AreValues objects q.values) r reports are in
    let rest = total_size objects reports o (All-tail (λ (q : Reported). AreValues objects q.values) r reports are) in
    omega (arith, ints, rest, value_size r.values o here.small, int_sum-cons (value_of r.values o) (map (λ q. value_of q.values o) reports))

-- ---- leeways

zero_bases : (reports : List Reported) (o : ℕ) → int_sum (map (base o) (map (monitor (pos 0)) reports)) +ℤ total reports o ≡ pos 0
zero_bases [] o = refl
zero_bases (r ∷ reports) o =
    omega (arith, ints, zero_bases reports o, int_sum-cons (base o (monitor (pos 0) r)) (map (base o) (map (monitor (pos 0)) reports)), int_sum-cons (value_of r.values o) (map (λ q. value_of q.values o) reports))

nodes_map : {X : Type 0} (f : ℕ → X) (reports : List Reported) → map (λ (q : Part). f q.node) (map (monitor (pos 0)) reports) ≡ map f (map (λ (r : Reported). r.mon.0) reports)
nodes_map f [] = refl
nodes_map f (r ∷ reports) = ap (λ xs. f r.mon.0 ∷ xs) (nodes_map f reports)

-- the factors of an object sum to zero over all nodes
factors_zero : (grid : Grid) (own : Part) (reports : List Reported) (o : ℕ) → own.node ≡ 0 → map (λ (r : Reported). r.mon.0) reports ≡ range_with_len 1 grid.monitors → IsBalanced grid.monitors (row_of grid o)
    → int_sum (map (λ q. factor_at grid q.node o) (own ∷ map (monitor (pos 0)) reports)) ≡ pos 0
factors_zero grid own reports o zero_node order b =
    let f : ℕ → ℤ = λ n. factor_at grid n o in
    let row = row_of grid o in
    let whole : row ≡ map f (range_with_len 0 (suc grid.monitors)) = fill_by_all f row (suc grid.monitors) (pos 0) (omega (arith, b.nodes)) (λ k h. refl) in
    let rest : map (λ q. factor_at grid q.node o) (map (monitor (pos 0)) reports) ≡ map f (range_with_len 1 grid.monitors) = nodes_map f reports ∙ ap (map f) order in
    ap int_sum (ap (λ (n : ℕ). factor_at grid n o ∷ map (λ q. factor_at grid q.node o) (map (monitor (pos 0)) reports)) zero_node ∙ ap (λ (zs : List ℤ). f 0 ∷ zs) rest ∙ sym whole) ∙ b.sum

-- where every border is 0, a leeway is the coordinator's value and the total
pub zero_leeway : (grid : Grid) (own : Part) (reports : List Reported) (o : ℕ) → own.node ≡ 0 → own.border ≡ pos 0 → map (λ (r : Reported). r.mon.0) reports ≡ range_with_len 1 grid.monitors → IsBalanced grid.monitors (row_of grid o)
    → leeway grid (own ∷ map (monitor (pos 0)) reports) o ≡ value_of own.values o +ℤ total reports o
unfolding leeway
zero_leeway grid own reports o zero_node zero_border order b =
    let ms = map (monitor (pos 0)) reports in
    omega (arith, ints, split_above grid o (own ∷ ms), factors_zero grid own reports o zero_node order b, zero_bases reports o, int_sum-cons (base o own) (map (base o) ms), zero_border)

-- ---- the round

-- a wide round that has ended
pub record IsWide (setup : Setup) (grid : Grid) (present : List ℕ) (reports : List Reported) (change : Reallocation) : Type 0 where
  pub limits : IsWithinLimits setup
  pub size : IsOfSize setup grid
  pub balanced : AreBalanced grid
  pub reported : AreReports setup.monitors (objects setup.objects) reports
  pub is : IsReallocation grid (wide_parts setup (chosen setup present reports (objects setup.objects)) reports) (objects setup.objects) (chosen setup present reports (objects setup.objects)) change

-- the objects of a catalogue are those from 1 to its number
pub of_catalogue : (n o : ℕ) → Contains (objects n) o → (0 < o) × (o ≤ n)
unfolding objects
of_catalogue n o (k, within, is) =
    let read = get_or-range_with_len 1 n k o (omega (arith, length-range_with_len 1 n)) in
    (omega arith, omega (arith, length-range_with_len 1 n))

pub in_catalogue : (n o : ℕ) → 0 < o → o ≤ n → Contains (objects n) o
unfolding objects
in_catalogue n o some within =
    let read = get_or-range_with_len 1 n (o - 1) o (omega arith) in
    (o - 1, omega (arith, length-range_with_len 1 n), omega arith)

pub ones_sum : (reports : List Reported) → sum (weights_in (map (monitor (pos 0)) reports)) ≡ length reports
ones_sum [] = refl
ones_sum (r ∷ reports) = omega (arith, ones_sum reports, sum_by-cons (λ x. x) 1 (weights_in (map (monitor (pos 0)) reports)))

-- the coordinator of a wide round
abbrev pub wide_own : Setup → List ℕ → List Reported → Part
wide_own setup present reports = coordinator setup.own_weight setup.epsilon (pos 0) (chosen setup present reports (objects setup.objects)) (objects setup.objects)

pub wide_count : (setup : Setup) (grid : Grid) (present : List ℕ) (reports : List Reported) → CanWiden setup grid reports → length reports ≡ setup.monitors
wide_count setup grid present reports w = sym (length-map reports (λ (r : Reported). r.mon.0)) ∙ ap length w.reported.order ∙ length-range_with_len 1 setup.monitors

pub wide_order : (setup : Setup) (grid : Grid) (present : List ℕ) (reports : List Reported) → CanWiden setup grid reports → map (λ (r : Reported). r.mon.0) reports ≡ range_with_len 1 grid.monitors
wide_order setup grid present reports w = w.reported.order ∙ ap (range_with_len 1) (sym w.size.monitors)

pub wide_value : (setup : Setup) (present : List ℕ) (reports : List Reported) (o : ℕ) → Contains (objects setup.objects) o
    → value_of (wide_own setup present reports).values o ≡ (if is_in (chosen setup present reports (objects setup.objects)) o then setup.epsilon else pos 0)
wide_value setup present reports o in' =
    ap (λ (v : Option ℤ). unwrap_or v (pos 0)) (value_put (λ q. if is_in (chosen setup present reports (objects setup.objects)) q then setup.epsilon else pos 0) (objects setup.objects) o in')

wide_leeway : (setup : Setup) (grid : Grid) (present : List ℕ) (reports : List Reported) (o : ℕ) → CanWiden setup grid reports → Contains (objects setup.objects) o
    → leeway grid (wide_own setup present reports ∷ map (monitor (pos 0)) reports) o ≡ (if is_in (chosen setup present reports (objects setup.objects)) o then setup.epsilon else pos 0) +ℤ total reports o
wide_leeway setup grid present reports o w in' =
    let range = of_catalogue setup.objects o in' in
    zero_leeway grid (wide_own setup present reports) reports o refl refl (wide_order setup grid present reports w) (w.balanced (o - 1) (omega (arith, range.0, range.1, w.size.objects)))
    ∙ ap (λ (z : ℤ). z +ℤ total reports o) (wide_value setup present reports o in')

pub extra_size : (b : Bool) (epsilon : ℤ) → pos 0 ≤ℤ epsilon → epsilon ≤ℤ pos (2 ^ 100) → unsigned_abs (if b then epsilon else pos 0) ≤ 2 ^ 100
extra_size true epsilon low high = omega (arith, ints)
extra_size false epsilon low high = omega arith

pub leeway_size : (setup : Setup) (grid : Grid) (present : List ℕ) (reports : List Reported) (o : ℕ) → CanWiden setup grid reports → Contains (objects setup.objects) o
    → unsigned_abs (leeway grid (wide_own setup present reports ∷ map (monitor (pos 0)) reports) o) ≤ 65 * 2 ^ 100
leeway_size setup grid present reports o w in' =
    let few : length reports ≤ 64 = omega (arith, wide_count setup grid present reports w, w.limits.monitors) in
    let one = extra_size (is_in (chosen setup present reports (objects setup.objects)) o) setup.epsilon w.limits.no_debt w.limits.epsilon in
    let rest = total_size (objects setup.objects) reports o w.reported.values in
    omega (arith, ints, wide_leeway setup grid present reports o w in', one, rest, few)

pub slight_at : (P : ℤ → Type 0) → ((z : ℤ) → unsigned_abs z < 2 ^ 108 → P z) → (grid : Grid) (parts : List Part) (all : List ℕ) (first : ℕ) (rs : List Reported) → All (λ r. AreValues all r.values) rs
    → ((o : ℕ) → Contains all o → unsigned_abs (leeway grid parts o) ≤ 65 * 2 ^ 100) → AreBounded P grid parts all first (map (monitor (pos 0)) rs)
slight_at P weaker grid parts all first [] are small = tt
slight_at P weaker grid parts all first (r ∷ rs) are small = (
  λ o in'.
      let here : AreValues all r.values = All-head (λ (q : Reported). AreValues all q.values) r rs are in
      let dealt = share_size (weights_in parts) first (leeway grid parts o) in
      weaker (new_factor grid parts first (monitor (pos 0) r) o) (omega (arith, ints, dealt, small o in', value_size r.values o here.small)),
  slight_at P weaker grid parts all (first + 1) rs (All-tail (λ (q : Reported). AreValues all q.values) r rs are) small,
)

pub slight_own : (setup : Setup) (grid : Grid) (present : List ℕ) (reports : List Reported) (o : ℕ) → CanWiden setup grid reports → Contains (objects setup.objects) o
    → unsigned_abs (new_factor grid (wide_own setup present reports ∷ map (monitor (pos 0)) reports) 0 (wide_own setup present reports) o) < 2 ^ 108
slight_own setup grid present reports o w in' =
    let parts = wide_own setup present reports ∷ map (monitor (pos 0)) reports in
    let one = extra_size (is_in (chosen setup present reports (objects setup.objects)) o) setup.epsilon w.limits.no_debt w.limits.epsilon in
    omega (arith, ints, share_size (weights_in parts) 0 (leeway grid parts o), leeway_size setup grid present reports o w in', wide_value setup present reports o in', one)

-- ---- the promises

wide_placed : (setup : Setup) (grid : Grid) (present : List ℕ) (reports : List Reported) → CanWiden setup grid reports
    → ArePlaced grid (wide_own setup present reports) (map (monitor (pos 0)) reports) (objects setup.objects)
wide_placed setup grid present reports w =
    let nodes : map (λ (q : Part). q.node) (map (monitor (pos 0)) reports) ≡ range_with_len 1 grid.monitors = nodes_map (λ n. n) reports ∙ map-id (map (λ (r : Reported). r.mon.0) reports) ∙ wide_order setup grid present reports w in
    record {
      coordinator = refl;
      weight = omega (arith, sum_by-cons (λ x. x) setup.own_weight (weights_in (map (monitor (pos 0)) reports)), ones_sum reports, wide_count setup grid present reports w, w.limits.some_monitor);
      objects_within = λ k d within. omega (arith, (of_catalogue setup.objects (get_or (objects setup.objects) k d) (k, within, get_or_default (objects setup.objects) k (get_or (objects setup.objects) k d) d within)).1, w.size.objects);
      order = subst IsAscending (sym nodes) (ascending_range grid.monitors);
      monitors = subst (All (λ j. j ≤ grid.monitors)) (sym nodes) (λ k d within. omega (arith, get_or-range_with_len 1 grid.monitors k d (omega (arith, length-range_with_len 1 grid.monitors)), length-range_with_len 1 grid.monitors));
    }

called : (setup : Setup) (grid : Grid) (present : List ℕ) (reports : List Reported) (change : Reallocation) → IsWide setup grid present reports change → CanWiden setup grid reports
called setup grid present reports change w = record { limits = w.limits; size = w.size; balanced = w.balanced; reported = w.reported }

pub wide_replaces : (setup : Setup) (grid : Grid) (present : List ℕ) (reports : List Reported) (change : Reallocation) → IsWide setup grid present reports change → IsReplacement grid change
wide_replaces setup grid present reports change w =
    let within : (z : ℤ) → unsigned_abs z < 2 ^ 108 → IsFactor z = λ z h. omega arith in
    is_replacement grid (wide_own setup present reports) (map (monitor (pos 0)) reports) (objects setup.objects) (chosen setup present reports (objects setup.objects)) change w.is (wide_placed setup grid present reports (called setup grid present reports change w))
    (λ o in'. within (new_factor grid (wide_own setup present reports ∷ map (monitor (pos 0)) reports) 0 (wide_own setup present reports) o) (slight_own setup grid present reports o (called setup grid present reports change w) in'))
    (slight_at IsFactor within grid (wide_own setup present reports ∷ map (monitor (pos 0)) reports) (objects setup.objects) 1 reports w.reported.values (λ o in'. leeway_size setup grid present reports o (called setup grid present reports change w) in'))

pub wide_own_slight : (setup : Setup) (grid : Grid) (present : List ℕ) (reports : List Reported) (change : Reallocation) → IsWide setup grid present reports change → AreSlight change.own
wide_own_slight setup grid present reports change w =
    bounded_own (λ z. unsigned_abs z < 2 ^ 108) grid (wide_own setup present reports) (map (monitor (pos 0)) reports) (objects setup.objects) (chosen setup present reports (objects setup.objects)) change w.is
    (λ o in'. slight_own setup grid present reports o (called setup grid present reports change w) in')

pub wide_at_slight : (setup : Setup) (grid : Grid) (present : List ℕ) (reports : List Reported) (change : Reallocation) → IsWide setup grid present reports change → All (λ c. AreSlight c.changes) change.at.items
wide_at_slight setup grid present reports change w k d h =
    (bounded_at (λ z. unsigned_abs z < 2 ^ 108) grid (wide_own setup present reports) (map (monitor (pos 0)) reports) (objects setup.objects) (chosen setup present reports (objects setup.objects)) change w.is
    (slight_at (λ z. unsigned_abs z < 2 ^ 108) (λ z small. small) grid (wide_own setup present reports ∷ map (monitor (pos 0)) reports) (objects setup.objects) 1 reports w.reported.values (λ o in'. leeway_size setup grid present reports o (called setup grid present reports change w) in'))
    k d h).1

-- a member's leeway is at least that of any other object
pub wide_order_kept : (setup : Setup) (grid : Grid) (present : List ℕ) (reports : List Reported) (t s : ℕ) → CanWiden setup grid reports
    → Contains (chosen setup present reports (objects setup.objects)) t → (Contains (chosen setup present reports (objects setup.objects)) s → ⊥) → Contains (objects setup.objects) s
    → leeway grid (wide_own setup present reports ∷ map (monitor (pos 0)) reports) s ≤ℤ leeway grid (wide_own setup present reports ∷ map (monitor (pos 0)) reports) t
wide_order_kept setup grid present reports t s w chosen_t left of =
    let all = objects setup.objects in
    let members = chosen setup present reports all in
    let t_of = picked_of (total reports) present all setup.k t chosen_t in
    let best = picked_greatest (total reports) present all setup.k t s chosen_t of left in
    let extra_t : (if is_in members t then setup.epsilon else pos 0) ≡ setup.epsilon = ap (λ b. if b then setup.epsilon else pos 0) (contained_is_in members t chosen_t) in
    let extra_s : (if is_in members s then setup.epsilon else pos 0) ≡ pos 0 = ap (λ b. if b then setup.epsilon else pos 0) (outside_is_not_in members s left) in
    omega (arith, ints, best, extra_t, extra_s, wide_leeway setup grid present reports t w t_of, wide_leeway setup grid present reports s w of, w.limits.no_debt)

pub wide_keeps_own : (setup : Setup) (grid : Grid) (present : List ℕ) (reports : List Reported) (change : Reallocation) → IsWide setup grid present reports change → KeepsOwn grid setup.epsilon change
wide_keeps_own setup grid present reports change w t s in' out some within =
    let all = objects setup.objects in
    let own = wide_own setup present reports in
    let ms = map (monitor (pos 0)) reports in
    let members = chosen setup present reports all in
    let of = in_catalogue setup.objects s some (omega (arith, w.size.objects)) in
    let chosen_t = subst (λ xs. Contains xs t) w.is.chosen in' in
    let t_of = picked_of (total reports) present all setup.k t chosen_t in
    let left : Contains members s → ⊥ = λ c. out (subst (λ xs. Contains xs s) (sym w.is.chosen) c) in
    let extra_t : (if is_in members t then setup.epsilon else pos 0) ≡ setup.epsilon = ap (λ b. if b then setup.epsilon else pos 0) (contained_is_in members t chosen_t) in
    let extra_s : (if is_in members s then setup.epsilon else pos 0) ≡ pos 0 = ap (λ b. if b then setup.epsilon else pos 0) (outside_is_not_in members s left) in
    let more = share_grows (weights_in (own ∷ ms)) 0 (leeway grid (own ∷ ms) s) (leeway grid (own ∷ ms) t) (wide_order_kept setup grid present reports t s (called setup grid present reports change w) chosen_t left of) in
    let after_t = own_after grid own ms all members change t (factor_at grid 0 t) w.is t_of in
    let after_s = own_after grid own ms all members change s (factor_at grid 0 s) w.is of in
    omega (arith, ints, more, after_t, after_s, extra_t, extra_s, wide_value setup present reports t t_of, wide_value setup present reports s of)

-- the factor of a monitor afterwards
pub wide_after : (setup : Setup) (grid : Grid) (present : List ℕ) (reports : List Reported) (change : Reallocation) (k o : ℕ) (d : Reported) → IsWide setup grid present reports change → k < length reports → Contains (objects setup.objects) o
    → factor_after grid change (get_or reports k d).mon.0 o ≡ new_factor grid (wide_own setup present reports ∷ map (monitor (pos 0)) reports) (1 + k) (monitor (pos 0) (get_or reports k d)) o
wide_after setup grid present reports change k o d w within in' =
    let own = wide_own setup present reports in
    let ms = map (monitor (pos 0)) reports in
    let e : Part = monitor (pos 0) d in
    let read : get_or ms k e ≡ monitor (pos 0) (get_or reports k d) = get_or-map (monitor (pos 0)) reports k d e within in
    let order = wide_order setup grid present reports (called setup grid present reports change w) in
    let nodes : map (λ (q : Part). q.node) ms ≡ range_with_len 1 grid.monitors = nodes_map (λ n. n) reports ∙ map-id (map (λ (r : Reported). r.mon.0) reports) ∙ order in
    let apart = subst AreApart (sym nodes) (ascending_are_apart (range_with_len 1 grid.monitors) (ascending_range grid.monitors)) in
    let number : (get_or reports k d).mon.0 ≡ 1 + k =
    sym (get_or-map (λ (r : Reported). r.mon.0) reports k d 0 within) ∙ ap (λ (xs : List ℕ). get_or xs k 0) w.reported.order ∙ get_or-range_with_len 1 setup.monitors k 0 (omega (arith, wide_count setup grid present reports (called setup grid present reports change w))) in
    let node : (get_or ms k e).node ≡ (get_or reports k d).mon.0 = ap (λ (q : Part). q.node) read in
    subst (λ (q : Part). factor_in (changes_at change q.node) o (factor_at grid (get_or reports k d).mon.0 o) ≡ new_factor grid (own ∷ ms) (1 + k) q o) read
    (at_after grid own ms (objects setup.objects) (chosen setup present reports (objects setup.objects)) change k o e (factor_at grid (get_or reports k d).mon.0 o) w.is in' (omega (arith, length-map reports (monitor (pos 0)))) apart (omega (arith, node, number)))

pub wide_keeps_levels : (setup : Setup) (grid : Grid) (present : List ℕ) (reports : List Reported) (change : Reallocation) → IsWide setup grid present reports change → All (KeepsLevels grid change) reports
wide_keeps_levels setup grid present reports change w k d within t s in' out at =
    let all = objects setup.objects in
    let own = wide_own setup present reports in
    let ms = map (monitor (pos 0)) reports in
    let of = subst (λ xs. Contains xs s) (w.reported.values k d within).same at in
    let chosen_t = subst (λ xs. Contains xs t) w.is.chosen in' in
    let left : Contains (chosen setup present reports all) s → ⊥ = λ c. out (subst (λ xs. Contains xs s) (sym w.is.chosen) c) in
    let t_of = picked_of (total reports) present all setup.k t chosen_t in
    let more = share_grows (weights_in (own ∷ ms)) (1 + k) (leeway grid (own ∷ ms) s) (leeway grid (own ∷ ms) t) (wide_order_kept setup grid present reports t s (called setup grid present reports change w) chosen_t left of) in
    omega (arith, ints, more, wide_after setup grid present reports change k t d w within t_of, wide_after setup grid present reports change k s d w within of)

-- ---- from the code's values

-- what the code has computed before it reallocates
pub record IsAsked (setup : Setup) (grid : Grid) (present : List ℕ) (reports : List Reported) (first : Reported) (sums : List (ℕ × ℤ)) (members : List ℕ) (values : List (ℕ × ℤ)) : Type 0 where
  pub limits : IsWithinLimits setup
  pub size : IsOfSize setup grid
  pub balanced : AreBalanced grid
  pub reported : AreReports setup.monitors (objects setup.objects) reports
  pub head : first ≡ get_or reports 0 first
  pub sums_are : sums ≡ totals reports (objects_of first.values)
  pub members_are : members ≡ picked sums present setup.k
  pub values_are : values ≡ map (λ o. (o, if is_in members o then setup.epsilon else pos 0)) (objects_of sums)

pub reports_count : (monitors : ℕ) (all : List ℕ) (reports : List Reported) → AreReports monitors all reports → length reports ≡ monitors
reports_count monitors all reports r = sym (length-map reports (λ (q : Reported). q.mon.0)) ∙ ap length r.order ∙ length-range_with_len 1 monitors

-- the first report is over all objects
pub first_objects : (setup : Setup) (reports : List Reported) (first : Reported) → IsWithinLimits setup → AreReports setup.monitors (objects setup.objects) reports → first ≡ get_or reports 0 first
    → objects_of first.values ≡ objects setup.objects
first_objects setup reports first limits reported head =
    let within : 0 < length reports = omega (arith, limits.some_monitor, reports_count setup.monitors (objects setup.objects) reports reported) in
    ap (λ (r : Reported). objects_of r.values) head ∙ (reported.values 0 first within).same

asked_totals : (setup : Setup) (grid : Grid) (present : List ℕ) (reports : List Reported) (first : Reported) (sums : List (ℕ × ℤ)) (members : List ℕ) (values : List (ℕ × ℤ)) → IsAsked setup grid present reports first sums members values
    → sums ≡ totals reports (objects setup.objects)
asked_totals setup grid present reports first sums members values a = a.sums_are ∙ ap (totals reports) (first_objects setup reports first a.limits a.reported a.head)

asked_objects : (setup : Setup) (grid : Grid) (present : List ℕ) (reports : List Reported) (first : Reported) (sums : List (ℕ × ℤ)) (members : List ℕ) (values : List (ℕ × ℤ)) → IsAsked setup grid present reports first sums members values
    → objects_of sums ≡ objects setup.objects
asked_objects setup grid present reports first sums members values a = ap objects_of (asked_totals setup grid present reports first sums members values a) ∙ objects_paired (total reports) (objects setup.objects)

asked_members : (setup : Setup) (grid : Grid) (present : List ℕ) (reports : List Reported) (first : Reported) (sums : List (ℕ × ℤ)) (members : List ℕ) (values : List (ℕ × ℤ)) → IsAsked setup grid present reports first sums members values
    → members ≡ chosen setup present reports (objects setup.objects)
asked_members setup grid present reports first sums members values a = a.members_are ∙ ap (λ (x : List (ℕ × ℤ)). picked x present setup.k) (asked_totals setup grid present reports first sums members values a)

asked_values : (setup : Setup) (grid : Grid) (present : List ℕ) (reports : List Reported) (first : Reported) (sums : List (ℕ × ℤ)) (members : List ℕ) (values : List (ℕ × ℤ)) → IsAsked setup grid present reports first sums members values
    → values ≡ (wide_own setup present reports).values
asked_values setup grid present reports first sums members values a =
    a.values_are
    ∙ ap (map (λ o. (o, if is_in members o then setup.epsilon else pos 0))) (asked_objects setup grid present reports first sums members values a)
    ∙ ap (λ (m : List ℕ). map (λ o. (o, if is_in m o then setup.epsilon else pos 0)) (objects setup.objects)) (asked_members setup grid present reports first sums members values a)

pub own_small : (setup : Setup) (members : List ℕ) (all : List ℕ) → IsWithinLimits setup → All (λ (p : ℕ × ℤ). unsigned_abs p.1 ≤ 2 ^ 100) (map (λ o. (o, if is_in members o then setup.epsilon else pos 0)) all)
own_small setup members all limits =
    All-map (λ (p : ℕ × ℤ). unsigned_abs p.1 ≤ 2 ^ 100) (λ (o : ℕ). (o, if is_in members o then setup.epsilon else pos 0)) all (λ k d within. extra_size (is_in members (get_or all k d)) setup.epsilon limits.no_debt limits.epsilon)

-- what the code deals by is within bounds
pub asked_terms : (setup : Setup) (grid : Grid) (present : List ℕ) (reports : List Reported) (first : Reported) (sums : List (ℕ × ℤ)) (members : List ℕ) (values : List (ℕ × ℤ)) (weight : ℕ) → IsAsked setup grid present reports first sums members values → weight ≡ setup.own_weight
    → AreTerms grid (record { own_weight = weight; own_border = pos 0; own_values = values; borders = Zero }) reports
asked_terms setup grid present reports first sums members values weight a w =
    let same : objects_of values ≡ objects setup.objects = ap objects_of a.values_are ∙ objects_paired (λ o. if is_in members o then setup.epsilon else pos 0) (objects_of sums) ∙ asked_objects setup grid present reports first sums members values a in
    let count = reports_count setup.monitors (objects setup.objects) reports a.reported in
    record {
      own = record { same = refl; small = subst (All (λ (p : ℕ × ℤ). unsigned_abs p.1 ≤ 2 ^ 100)) (sym a.values_are) (own_small setup members (objects_of sums) a.limits) };
      objects = subst (All (λ o. o ≤ length grid.rows)) (sym same)
          (λ k d within. omega (arith, (of_catalogue setup.objects (get_or (objects setup.objects) k d) (k, within, get_or_default (objects setup.objects) k (get_or (objects setup.objects) k d) d within)).1, a.size.objects));
      border = omega arith;
      weight = omega (arith, a.limits.own_weight);
      some = omega (arith, count, a.limits.some_monitor);
      count = omega (arith, count, a.limits.monitors);
      parts = λ k d within.
          let number : (get_or reports k d).mon.0 ≡ 1 + k =
          sym (get_or-map (λ (r : Reported). r.mon.0) reports k d 0 within) ∙ ap (λ (xs : List ℕ). get_or xs k 0) a.reported.order ∙ get_or-range_with_len 1 setup.monitors k 0 (omega (arith, count)) in
          record {
            values = record { same = (a.reported.values k d within).same ∙ sym same; small = (a.reported.values k d within).small };
            some = omega (arith, number);
            monitor = omega (arith, number, within, count, a.size.monitors);
            border = omega arith;
          };
    }

-- the reallocation is that of a wide round
pub asked_is_wide : (setup : Setup) (grid : Grid) (present : List ℕ) (reports : List Reported) (first : Reported) (sums : List (ℕ × ℤ)) (members : List ℕ) (values : List (ℕ × ℤ)) (weight : ℕ) (change : Reallocation)
    → IsAsked setup grid present reports first sums members values → weight ≡ setup.own_weight
    → IsReallocation grid (parts_of (record { own_weight = weight; own_border = pos 0; own_values = values; borders = Zero }) reports) (objects_of values) members change
    → IsWide setup grid present reports change
asked_is_wide setup grid present reports first sums members values weight change a w r =
    let same : objects_of values ≡ objects setup.objects = ap objects_of a.values_are ∙ objects_paired (λ o. if is_in members o then setup.epsilon else pos 0) (objects_of sums) ∙ asked_objects setup grid present reports first sums members values a in
    let ms = map (monitor (pos 0)) reports in
    let one = subst (λ all. IsReallocation grid (record { node = 0; weight = weight; border = pos 0; values = values } ∷ ms) all members change) same r in
    let two = subst (λ m. IsReallocation grid (record { node = 0; weight = weight; border = pos 0; values = values } ∷ ms) (objects setup.objects) m change) (asked_members setup grid present reports first sums members values a) one in
    let three = subst (λ v. IsReallocation grid (record { node = 0; weight = weight; border = pos 0; values = v } ∷ ms) (objects setup.objects) (chosen setup present reports (objects setup.objects)) change) (asked_values setup grid present reports first sums members values a) two in
    record {
      limits = a.limits;
      size = a.size;
      balanced = a.balanced;
      reported = a.reported;
      is = subst (λ n. IsReallocation grid (record { node = 0; weight = n; border = pos 0; values = (wide_own setup present reports).values } ∷ ms) (objects setup.objects) (chosen setup present reports (objects setup.objects)) change) w three;
    }
