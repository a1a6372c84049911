-- What stands after a round has ended: by the laws of reallocation.
use Rattle.std.proofs.Common.{◌≡◌, ℕ, true, not, ◌+◌, ◌^◌, ◌≤◌, ◌<◌, ◌&&◌, ℤ, pos, ◌≤ℤ◌, unsigned_abs, List, [], ◌∷◌, ◌++◌, length, map, Contains, None, refl, sym, ap, ◌∙◌, subst, arith}
use Rattle.std.specs.Prelude.{int_le, filter, if◌then◌else◌}
use Rattle.std.specs.List.{All, list_all, range_with_len}
use Rattle.std.proofs.lemmas.Int.{ints}
use Rattle.std.proofs.lemmas.Bool.{and_parts}
use Rattle.std.proofs.lemmas.List.{length-map}
use Rattle.std.proofs.lemmas.List.Elements.{All-contains}
use Rattle.std.proofs.lemmas.List.FromFn.{length-range_with_len}
use Rattle.tk_base.specs.Objects.{objects, is_in}
use Rattle.tk_base.specs.Ascending.{IsAscending}
use Rattle.tk_base.specs.Pairs.{objects_of}
use Rattle.tk_base.specs.Settings.{Setup, IsWithinLimits}
use Rattle.tk_base.proofs.CompareLemmas.{at_most}
use Rattle.tk_base.proofs.PairsLemmas.{objects_paired}
use Rattle.tk_base.proofs.MemberLemmas.{contained_is_in, is_in_contained, outside_is_not_in, length-objects, objects_within}
use Rattle.tk_rows.specs.Factors.{Grid, IsFactor}
use Rattle.tk_border.proofs.RisingLemmas.{ascends, rises-objects, is_in-filter}
use Rattle.tk_share.proofs.ShareLemmas.{share_grows, share_of_no_debt}
use Rattle.tk_alloc.specs.declared.reported.Reported.{Reported}
use Rattle.tk_alloc.specs.Parts.{Part, monitor, leeway, new_factor}
use Rattle.tk_alloc.specs.Rounds.{chosen, totals, total, wide_parts}
use Rattle.tk_alloc.specs.Resolving.{IsReady, CanTakePart, PassesShortTest, round_parts, objects_over}
use Rattle.tk_alloc.proofs.LeewayLemmas.{weights_in}
use Rattle.tk_alloc.proofs.BorderLemmas.{border_covers}
use Rattle.tk_alloc.proofs.PickLemmas.{picked_of}
use Rattle.tk_alloc.proofs.PickedLemmas.{length-picked, picked_ascends}
use Rattle.tk_alloc.proofs.RoundLemmas.{own_part, bordered, member_value, other_value, present_no_debt}
use Rattle.tk_alloc.proofs.ShortLemmas.{one_takes}
use Rattle.tk_alloc.proofs.FullLemmas.{IsCalled, full_ranked, full_no_debt}
use Rattle.tk_alloc.specs.Limit.{CanWiden}
use Rattle.tk_alloc.proofs.WideLemmas.{wide_own, wide_value, wide_order_kept, slight_own, slight_at, leeway_size, in_catalogue}
use Rattle.tk_journal.specs.Laws.{IsMonitor, AreSentShort}
use Rattle.tk_journal.specs.Readings.{assigns_sent, members_at, table_at, tunings, first_round, in_force}
use Rattle.tk_journal.specs.Deciding.{is_within_limit, short_decides, full_decides, wide_decides, passes_short_test}
use Rattle.tk_journal.specs.Turns.{assigns, short_at, full_at, wide_at, passes_at}
use Rattle.tk_journal.specs.declared.noted.Noted.{Noted}
use Rattle.tk_journal.proofs.Pieces.{batch}
use Rattle.tk_journal.proofs.Batches.{named, named_members}
use Rattle.tk_journal.proofs.Same.{tunings-append}
use Rattle.tk_journal.proofs.Counting.{named_round}
use Rattle.tk_journal.proofs.Content.{all_by}
use Rattle.tk_journal.proofs.Dealing.{dealt_rows, own_dealt, own_other, own_short, own_short_other, rows_nodes, nodes_of}
use Rattle.tk_journal.proofs.Orderly.{Row, sends, open_named}
use Rattle.tk_journal.proofs.Sizes.{objects_few, rows_of, sends_short}
use Rattle.tk_journal.proofs.Standing.{IsStanding, RanksBy, is_small, all_holds, standing_after, factors_small, one_small, bounded_small, dealt_small}
use Rattle.tk_journal.proofs.Tables.{IsObject, AreSized, own_is, rows_count}
use Rattle.tk_journal.proofs.Tuning.{force_by, force_objects, force_monitors}

-- ---- Assigns leave k and epsilon in force

named_tunings : {A : Type 0} (to seq : A → ℕ) (members : List ℕ) (changes : A → List (ℕ × ℤ)) (rows : List A) → (tunings (batch to (named seq members changes) rows) ≡ []) × (first_round (batch to (named seq members changes) rows) ≡ None)
named_tunings to seq members changes [] = (refl, refl)
named_tunings to seq members changes (d ∷ rows) = named_tunings to seq members changes rows

pub sent_tunings : (j : List Noted) (members : List ℕ) (rows : List Row) → tunings (j ++ sends j members rows) ≡ tunings j
sent_tunings j members rows =
    let none = named_tunings (λ (d : Row). d.0) (λ d. assigns_sent d.0 j + 1) members (λ d. d.1) rows in tunings-append j (sends j members rows) none.0 none.1

pub sent_force : (s : Setup) (j : List Noted) (members : List ℕ) (rows : List Row) → in_force s (j ++ sends j members rows) ≡ in_force s j
sent_force s j members rows =
    let none = named_tunings (λ (d : Row). d.0) (λ d. assigns_sent d.0 j + 1) members (λ d. d.1) rows in
    force_by s j (j ++ sends j members rows) (named_round j (λ (d : Row). d.0) (λ d. assigns_sent d.0 j + 1) members (λ d. d.1) rows)
    (open_named s j (λ (d : Row). d.0) (λ d. assigns_sent d.0 j + 1) members (λ d. d.1) rows) (tunings-append j (sends j members rows) none.0 none.1)

-- ---- the constraint by what a bordered round deals

abbrev dealt_own : Setup → Grid → List ℕ → List ℕ → List ℕ → List Reported → ℕ → ℤ
dealt_own setup grid present members all reports o = new_factor grid (round_parts setup grid present members all reports) 0 (own_part setup grid present members all) o

record IsDealt (setup : Setup) (grid : Grid) (present members all : List ℕ) (reports : List Reported) : Type 0 where
  among : (t : ℕ) → Contains members t → Contains all t
  ranked : (t o : ℕ) → Contains members t → (Contains members o → ⊥) → Contains all o → leeway grid (round_parts setup grid present members all reports) o ≤ℤ leeway grid (round_parts setup grid present members all reports) t
  no_debt : (t : ℕ) → Contains members t → pos 0 ≤ℤ leeway grid (round_parts setup grid present members all reports) t

bordered_ranks : (s : Setup) (j : List Noted) (setup : Setup) (members all : List ℕ) (reports : List Reported) → IsDealt setup (table_at s j) (members_at j) members all reports
    → RanksBy s j members all (dealt_own setup (table_at s j) (members_at j) members all reports) setup.epsilon
bordered_ranks s j setup members all reports d =
    let grid = table_at s j in
    let present = members_at j in
    let parts = round_parts setup grid present members all reports in
    record {
      among = d.among;
      inside = λ t o in' out of.
          let more = share_grows (weights_in parts) 0 (leeway grid parts o) (leeway grid parts t) (d.ranked t o in' out of) in
          let value_t = member_value setup grid present members all t (d.among t in') in' in
          let value_o = other_value setup grid present members all o of out in
          omega (arith, ints, more, value_t, value_o);
      outside = λ t o in' r gone.
          let fair = share_of_no_debt (weights_in parts) 0 (leeway grid parts t) (d.no_debt t in') in
          let value_t = member_value setup grid present members all t (d.among t in') in' in
          let covers = border_covers setup grid present all o r.from_one (let w = r.within in let l = rows_count s j in omega (arith, w, l)) gone in
          let own_o = own_is s j o r in
          omega (arith, ints, fair, value_t, covers, own_o);
    }

-- ---- a full round

-- what a full round begins with, at a journal
pub record IsFullAt (s : Setup) (j : List Noted) (reports : List Reported) : Type 0 where
  pub called : IsCalled (in_force s j) (table_at s j) (members_at j) (objects_over reports) reports
  pub within : All (λ o. o ≤ s.objects) (objects_over reports)
  pub ascends : IsAscending (objects_over reports)
  pub sizes : AreSized s j

called_order : (s : Setup) (j : List Noted) (reports : List Reported) → IsFullAt s j reports → map (λ (r : Reported). r.mon.0) reports ≡ range_with_len 1 s.monitors
called_order s j reports c = c.called.order ∙ ap (range_with_len 1) (force_monitors s j)

some_reports : (s : Setup) (j : List Noted) (reports : List Reported) → 0 < s.monitors → map (λ (r : Reported). r.mon.0) reports ≡ range_with_len 1 s.monitors → 0 < length reports
some_reports s j reports some all = let a = length-map reports (λ (r : Reported). r.mon.0) in let b = ap length all in let c = length-range_with_len 1 s.monitors in omega (arith, a, b, c, some)

within_of : (n : ℕ) (members all : List ℕ) → ((t : ℕ) → Contains members t → Contains all t) → All (λ o. o ≤ n) all → All (λ o. o ≤ n) members
within_of n members all among within = all_by (λ o. o ≤ n) members (λ t in'. All-contains (λ o. o ≤ n) all t within (among t in'))

totals_objects : (reports : List Reported) (all : List ℕ) → objects_of (totals reports all) ≡ all
totals_objects reports all = objects_paired (total reports) all

chosen_ascends : (setup : Setup) (present : List ℕ) (reports : List Reported) (all : List ℕ) → IsAscending all → IsAscending (chosen setup present reports all)
chosen_ascends setup present reports all up = picked_ascends present (totals reports all) setup.k (subst IsAscending (sym (totals_objects reports all)) up)

pub chosen_count : (setup : Setup) (present : List ℕ) (reports : List Reported) (all : List ℕ) → IsAscending all → 0 < setup.k → setup.k ≤ length all → length (chosen setup present reports all) ≡ setup.k
chosen_count setup present reports all up some most =
    length-picked present (totals reports all) setup.k (subst IsAscending (sym (totals_objects reports all)) up) some (let l = ap length (totals_objects reports all) in let m = length-map (totals reports all) (λ (p : ℕ × ℤ). p.0) in omega (arith, most, l, m))

pub named_after : (j : List Noted) (members : List ℕ) (rows : List Row) → 0 < length rows → members_at (j ++ sends j members rows) ≡ members
named_after j members [] some = absurd (omega (arith, some))
named_after j members (d ∷ rows) some = named_members j (λ (e : Row). e.0) (λ e. assigns_sent e.0 j + 1) members (λ e. e.1) d rows

pub rows_some : (grid : Grid) (parts : List Part) (all : List ℕ) (b : Reported → ℤ) (reports : List Reported) → 0 < length reports → 0 < length (dealt_rows grid parts all 1 (map (λ r. monitor (b r) r) reports))
rows_some grid parts all b [] some = absurd (omega (arith, some))
rows_some grid parts all b (r ∷ reports) some = omega arith

pub all_nodes : (grid : Grid) (parts : List Part) (all : List ℕ) (b : Reported → ℤ) (reports : List Reported) → map (λ (d : Row). d.0) (dealt_rows grid parts all 1 (map (λ r. monitor (b r) r) reports)) ≡ map (λ (r : Reported). r.mon.0) reports
all_nodes grid parts all b reports = rows_nodes grid parts all 1 (map (λ r. monitor (b r) r) reports) ∙ nodes_of b reports

pub full_standing : (s : Setup) (j : List Noted) (reports : List Reported) → 0 < s.monitors → IsFullAt s j reports → is_within_limit (full_at s j reports) ≡ true → IsStanding s (j ++ assigns j (full_at s j reports))
unfolding full_decides
full_standing s j reports some c within =
    let setup = in_force s j in
    let grid = table_at s j in
    let present = members_at j in
    let all = objects_over reports in
    let members = chosen setup present reports all in
    let first = own_part setup grid present members all in
    let parts = round_parts setup grid present members all reports in
    let rows = dealt_rows grid parts all 1 (bordered reports) in
    let order = called_order s j reports c in
    let there = some_reports s j reports some order in
    let among : (t : ℕ) → Contains members t → Contains all t = λ t in'. picked_of (total reports) present all setup.k t in' in
    let small = and_parts (list_all is_small (map (λ o. (o, new_factor grid parts 0 first o)) all)) (list_all (λ (d : Row). list_all is_small d.1) rows) within in
    let nodes : map (λ (d : Row). d.0) rows ≡ range_with_len 1 s.monitors = all_nodes grid parts all (λ r. r.border) reports ∙ order in
    standing_after s j (j ++ sends j members rows) members all (λ o. new_factor grid parts 0 first o)
    (named_after j members rows (rows_some grid parts all (λ r. r.border) reports there))
    (sent_force s j members rows)
    (record { count = c.called.count; ascends = chosen_ascends setup present reports all c.ascends; within = within_of s.objects members all among c.within })
    (record {
      new = λ o r in'. own_dealt s j members all first (λ q. q.border) reports o r refl there order in';
      old = λ o out. own_other s j members all first (λ q. q.border) reports o order out;
    })
    (λ o r in'. dealt_small (λ q. new_factor grid parts 0 first q) all o small.0 in')
    (factors_small s j members rows nodes small.1 c.sizes)
    c.sizes
    (bordered_ranks s j setup members all reports (record {
      among = among;
      ranked = λ t o in' out of. full_ranked setup grid present all reports t o c.called in' out of;
      no_debt = λ t in'. full_no_debt setup grid present all reports t c.called in';
    }))

-- ---- a wide round

pub record IsWideAt (s : Setup) (j : List Noted) (reports : List Reported) : Type 0 where
  pub called : CanWiden (in_force s j) (table_at s j) reports
  pub sizes : AreSized s j

pub wide_ascends : (n : ℕ) → IsAscending (objects n)
wide_ascends n = ascends (objects n) (rises-objects n)

pub wide_standing : (s : Setup) (j : List Noted) (reports : List Reported) → IsWithinLimits s → IsWideAt s j reports → IsStanding s (j ++ assigns j (wide_at s j reports))
unfolding wide_decides
wide_standing s j reports limits c =
    let setup = in_force s j in
    let grid = table_at s j in
    let present = members_at j in
    let all = objects setup.objects in
    let members = chosen setup present reports all in
    let first = wide_own setup present reports in
    let b : Reported → ℤ = λ _. pos 0 in
    let parts = wide_parts setup members reports in
    let ms = map (monitor (pos 0)) reports in
    let rows = dealt_rows grid parts all 1 ms in
    let order = c.called.reported.order ∙ ap (range_with_len 1) (force_monitors s j) in
    let there = some_reports s j reports limits.some_monitor order in
    let size = force_objects s j in
    let among : (t : ℕ) → Contains members t → Contains all t = λ t in'. picked_of (total reports) present all setup.k t in' in
    let factor_of : (z : ℤ) → unsigned_abs z < 2 ^ 108 → IsFactor z = λ z h. omega (arith, h) in
    let nodes : map (λ (d : Row). d.0) rows ≡ range_with_len 1 s.monitors = all_nodes grid parts all b reports ∙ order in
    let small = bounded_small grid parts all 1 ms (slight_at IsFactor factor_of grid parts all 1 reports c.called.reported.values (λ o in'. leeway_size setup grid present reports o c.called in')) in
    let here : (o : ℕ) → IsObject s o → Contains all o = λ o r. in_catalogue setup.objects o r.from_one (let w = r.within in omega (arith, w, size)) in
    standing_after s j (j ++ sends j members rows) members all (λ o. new_factor grid parts 0 first o)
    (named_after j members rows (rows_some grid parts all b reports there))
    (sent_force s j members rows)
    (record {
      count = chosen_count setup present reports all (wide_ascends setup.objects) c.called.limits.some_member (let l = length-objects setup.objects in let m = c.called.limits.members in omega (arith, l, m));
      ascends = chosen_ascends setup present reports all (wide_ascends setup.objects);
      within = within_of s.objects members all among (subst (λ q. All (λ o. o ≤ q) all) size (objects_within setup.objects));
    })
    (record {
      new = λ o r in'. own_dealt s j members all first b reports o r refl there order in';
      old = λ o out. own_other s j members all first b reports o order out;
    })
    (λ o r in'. factor_of (new_factor grid parts 0 first o) (slight_own setup grid present reports o c.called in'))
    (factors_small s j members rows nodes small c.sizes)
    c.sizes
    (record {
      among = among;
      inside = λ t o in' out of.
          let more = share_grows (weights_in parts) 0 (leeway grid parts o) (leeway grid parts t) (wide_order_kept setup grid present reports t o c.called in' out of) in
          let value_t = wide_value setup present reports t (among t in') in
          let value_o = wide_value setup present reports o of in
          let extra_t : (if is_in members t then setup.epsilon else pos 0) ≡ setup.epsilon = ap (λ q. if q then setup.epsilon else pos 0) (contained_is_in members t in') in
          let extra_o : (if is_in members o then setup.epsilon else pos 0) ≡ pos 0 = ap (λ q. if q then setup.epsilon else pos 0) (outside_is_not_in members o out) in
          omega (arith, ints, more, value_t, value_o, extra_t, extra_o);
      outside = λ t o in' r gone. absurd (gone (here o r));
    })

-- ---- a short round

pub record IsShortAt (s : Setup) (j : List Noted) (report : Reported) : Type 0 where
  pub ready : IsReady (in_force s j) (table_at s j) (members_at j) (objects_of report.values)
  pub takes : CanTakePart (table_at s j) (members_at j) (objects_of report.values) report
  pub range : IsMonitor s report.mon.0

pub passed : (setup : Setup) (grid : Grid) (present : List ℕ) (report : Reported) → passes_short_test setup grid present report ≡ true → PassesShortTest setup grid present report
unfolding passes_short_test
passed setup grid present report test t o in' out of =
    let parts = round_parts setup grid present present (objects_of report.values) (report ∷ []) in
    let failed = filter (λ q. not (is_in present q)) (objects_of report.values) in
    let o_failed : Contains failed o = is_in_contained failed o
    (is_in-filter (λ q. not (is_in present q)) (objects_of report.values) o
    ∙ ap (λ b. b && not (is_in present o)) (contained_is_in (objects_of report.values) o of)
    ∙ ap not (outside_is_not_in present o out)) in
    let for_t = all_holds (λ q. list_all (λ p. int_le (leeway grid parts p) (leeway grid parts q)) failed) present test t in' in
    at_most (leeway grid parts o) (leeway grid parts t) (all_holds (λ p. int_le (leeway grid parts p) (leeway grid parts t)) failed for_t o o_failed)

pub short_standing : (s : Setup) (j : List Noted) (report : Reported) → IsStanding s j → IsShortAt s j report → passes_at s j report ≡ true → is_within_limit (short_at s j report) ≡ true
    → IsStanding s (j ++ assigns j (short_at s j report))
unfolding short_decides
short_standing s j report st c test within =
    let setup = in_force s j in
    let grid = table_at s j in
    let present = members_at j in
    let all = objects_of report.values in
    let first = own_part setup grid present present all in
    let parts = round_parts setup grid present present all (report ∷ []) in
    let part = monitor report.border report in
    let row : Row = (report.mon.0, map (λ o. (o, new_factor grid parts 1 part o)) all) in
    let small = and_parts (list_all is_small (map (λ o. (o, new_factor grid parts 0 first o)) all)) (list_all (λ (d : Row). list_all is_small d.1) (row ∷ [])) within in
    let of_row = and_parts (list_all is_small row.1) true small.1 in
    let pass = passed setup grid present report test in
    standing_after s j (j ++ sends j present (row ∷ [])) present all (λ o. new_factor grid parts 0 first o)
    (named_after j present (row ∷ []) (omega arith))
    (sent_force s j present (row ∷ []))
    st.chosen
    (record {
      new = λ o r in'. own_short s j present all first report o r refl c.range in';
      old = λ o out. own_short_other s j present all first report o out;
    })
    (λ o r in'. dealt_small (λ q. new_factor grid parts 0 first q) all o small.0 in')
    (one_small s j present row of_row.0 st.sizes)
    st.sizes
    (bordered_ranks s j setup present all (report ∷ []) (record {
      among = λ t in'. All-contains (Contains all) present t c.ready.members in';
      ranked = λ t o in' out of. pass t o in' out of;
      no_debt = λ t in'. present_no_debt setup grid present present all (report ∷ []) t c.ready (one_takes grid present report c.takes) in' in';
    }))

-- ---- the Assigns are within the limits of frames

pub full_short : (s : Setup) (j : List Noted) (reports : List Reported) → IsFullAt s j reports → AreSentShort (assigns j (full_at s j reports))
unfolding full_decides
full_short s j reports c =
    let setup = in_force s j in
    let grid = table_at s j in
    let all = objects_over reports in
    let members = chosen setup (members_at j) reports all in
    let parts = round_parts setup grid (members_at j) members all reports in
    let few = objects_few s.objects all c.ascends c.called.positive c.within in
    let size = force_objects s j in
    let most = c.called.limits.objects in
    let count = c.called.count in
    let k = c.called.limits.k in
    sends_short j members (dealt_rows grid parts all 1 (bordered reports)) (length all) (omega (arith, count, k)) (rows_of grid parts all 1 (bordered reports)) (omega (arith, few, size, most))

pub wide_short : (s : Setup) (j : List Noted) (reports : List Reported) → IsWideAt s j reports → AreSentShort (assigns j (wide_at s j reports))
unfolding wide_decides
wide_short s j reports c =
    let setup = in_force s j in
    let grid = table_at s j in
    let all = objects setup.objects in
    let members = chosen setup (members_at j) reports all in
    let parts = wide_parts setup members reports in
    let size = length-objects setup.objects in
    let most = c.called.limits.objects in
    let within = c.called.limits.members in
    let count = chosen_count setup (members_at j) reports all (wide_ascends setup.objects) c.called.limits.some_member (omega (arith, size, within)) in
    let k = c.called.limits.k in
    sends_short j members (dealt_rows grid parts all 1 (map (monitor (pos 0)) reports)) (length all) (omega (arith, count, k)) (rows_of grid parts all 1 (map (monitor (pos 0)) reports)) (omega (arith, size, most))

pub short_short : (s : Setup) (j : List Noted) (report : Reported) → IsStanding s j → IsWithinLimits (in_force s j) → length (objects_of report.values) ≤ 65536 → AreSentShort (assigns j (short_at s j report))
unfolding short_decides
short_short s j report st limits few =
    let setup = in_force s j in
    let grid = table_at s j in
    let present = members_at j in
    let all = objects_of report.values in
    let parts = round_parts setup grid present present all (report ∷ []) in
    let count = st.chosen.count in
    let k = limits.k in
    sends_short j present (dealt_rows grid parts all 1 (monitor report.border report ∷ [])) (length all) (omega (arith, count, k)) (rows_of grid parts all 1 (monitor report.border report ∷ [])) few
