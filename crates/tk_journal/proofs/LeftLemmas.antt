-- What is reported to a round that ends, and what the end of a round leaves at the reported values.
use Rattle.tk_frames.specs.declared.frame.Frame.TheVariants as f
use Rattle.tk_journal.specs.declared.noted.Noted.TheVariants as n
use Rattle.std.proofs.Common.{◌≡◌, ℕ, ◌+◌, ◌≤◌, ◌<◌, ◌==◌, ℤ, pos, ◌+ℤ◌, ◌≤ℤ◌, Bool, true, false, not, List, [], ◌∷◌, ◌++◌, length, map, get_or, Contains, Option, refl, sym, ap, ◌∙◌, subst, arith, append_assoc}
use Rattle.std.specs.Prelude.{filter, nat_lt, unwrap_or, if◌then◌else◌}
use Rattle.std.specs.List.{All, filter_map, range_with_len}
use Rattle.std.proofs.lemmas.Bool.{eq-eqb, lt-ltb, le-ltb, true≢false}
use Rattle.std.proofs.lemmas.Int.{ints}
use Rattle.std.proofs.lemmas.List.{length-map, get_or-map}
use Rattle.std.proofs.lemmas.List.Elements.{All-contains}
use Rattle.std.proofs.lemmas.List.FromFn.{length-range_with_len, get_or-range_with_len}
use Rattle.tk_base.specs.Objects.{objects}
use Rattle.tk_base.specs.Pairs.{objects_of}
use Rattle.tk_base.specs.Settings.{Setup}
use Rattle.tk_base.specs.declared.ids.Mon.{Mon}
use Rattle.tk_frames.specs.declared.frame.Frame.{Frame}
use Rattle.tk_rows.specs.Factors.{Grid}
use Rattle.tk_share.proofs.ShareLemmas.{share_grows}
use Rattle.tk_alloc.specs.declared.reported.Reported.{Reported}
use Rattle.tk_alloc.specs.Parts.{Part, leeway, monitor, new_factor}
use Rattle.tk_alloc.specs.Resolving.{CanTakePart, objects_over, round_parts}
use Rattle.tk_alloc.specs.Rounds.{chosen, total, wide_parts}
use Rattle.tk_alloc.specs.Strain.{is_strained}
use Rattle.tk_alloc.proofs.FullLemmas.{full_ranked}
use Rattle.tk_alloc.proofs.LeewayLemmas.{value_put, weights_in}
use Rattle.tk_alloc.proofs.MendLemmas.{short_mends}
use Rattle.tk_alloc.proofs.PickLemmas.{picked_of}
use Rattle.tk_alloc.proofs.WideLemmas.{wide_order_kept}
use Rattle.tk_journal.specs.Deciding.{full_decides, is_within_limit, reports_at, short_decides, wide_decides}
use Rattle.tk_journal.specs.Legal.{Opening, turn_of}
use Rattle.tk_journal.specs.Publishing.{closing}
use Rattle.tk_journal.specs.Readings.{assigns_sent, assigns_to, factor, in_force, is_open, members_at, members_in, monitors, table_at}
use Rattle.tk_journal.specs.Refusal.{known_by}
use Rattle.tk_journal.specs.RoundEnds.{AreReported, AreSpokenOf, IsFreshTurn, IsLoneTurn, IsRoundEnd, IsShortTurn, KeepsOrder, levels_with}
use Rattle.tk_journal.specs.Shapes.{IsLastValues, Shape}
use Rattle.tk_journal.specs.Shapes.Shape.{Plain, Short, Wide, Full, LoneEnd, LoneWide, EndFull, EndOver, EndWide}
use Rattle.tk_journal.specs.Turns.{assigns, collects, demanded, full_at, full_end, is_wide, kind_of, passes_at, report_demands, reported, rounds, short_at, streak, values_demand, wide_at, wide_collects, wide_end}
use Rattle.tk_journal.specs.declared.turn.TurnKind.TheVariants.{Note, End}
use Rattle.tk_journal.specs.declared.noted.Noted.{Noted}
use Rattle.tk_journal.proofs.Appends.{assigns_to-append, members_at-append}
use Rattle.tk_journal.proofs.Content.{IsResolving, all_by, report_takes_part}
use Rattle.tk_journal.proofs.Dealing.{dealt_rows, factor_sent, row_place}
use Rattle.tk_journal.proofs.Ending.{IsFullAt, IsWideAt, all_nodes, named_after, passed, rows_some}
use Rattle.tk_journal.proofs.Firm.{IsFirm, full_begins, got_tuned, ready_over, wide_begins}
use Rattle.tk_journal.proofs.FirmTurns.{AreRoundObjects, fresh_content, full_at_end, got_sizes, one_report, report_objects, takes_at_end}
use Rattle.tk_journal.proofs.GrowLemmas.{ending_of, with_got}
use Rattle.tk_journal.proofs.LawLemmas.{orderly}
use Rattle.tk_journal.proofs.LevelledLemmas.{count_levels, dealt_at, short_levelled, short_sent}
use Rattle.tk_journal.proofs.Orderly.{IsEnding, Row, sends}
use Rattle.tk_journal.proofs.Pieces.{got_assigns, got_members}
use Rattle.tk_journal.proofs.Same.{factor_by, map_same, same_closing}
use Rattle.tk_journal.proofs.ShapeLemmas.{shape}
use Rattle.tk_journal.proofs.Sound.{IsRoundOver, round_got}
use Rattle.tk_journal.proofs.SoundLemmas.{legal_firm}
use Rattle.tk_journal.proofs.Standing.{object_of}
use Rattle.tk_journal.proofs.Tables.{rows_count, table_size}
use Rattle.tk_journal.proofs.Tuning.{force_limits, force_objects}
use Rattle.tk_journal.proofs.Turning.{kind_by}

-- ---- members and factors at the end of a turn

-- two journals with the same members and the same Assigns to each monitor
record Agree (a b : List Noted) : Type 0 where
  members : members_at b ≡ members_at a
  assigns : (mon : ℕ) → assigns_to mon b ≡ assigns_to mon a

order_by : (a b : List Noted) (r : Reported) (list : List ℕ) → Agree a b → KeepsOrder a r list → KeepsOrder b r list
order_by a b r list e h t o in' out of =
    let low = factor_by a b e.assigns r.mon.0 o in
    let high = factor_by a b e.assigns r.mon.0 t in
    let before = h t o (subst (λ ms. Contains ms t) e.members in') (λ found. out (subst (λ ms. Contains ms o) (sym e.members) found)) of in
    omega (arith, ints, low, high, before)

agree_trans : (a b c : List Noted) → Agree a b → Agree b c → Agree a c
agree_trans a b c x y = record { members = y.members ∙ x.members; assigns = λ mon. y.assigns mon ∙ x.assigns mon }

-- what follows the demands of a turn changes neither
turn_agrees : (s : Setup) (before : List Noted) (from : Mon) (frame : Frame) (xs : List Noted) → demanded s before from.0 frame ≡ xs → Agree (with_got before from frame ++ xs) (before ++ turn_of s before (n.Got from frame))
unfolding turn_of
turn_agrees s before from frame xs is =
    let turn = n.Got from frame ∷ demanded s before from.0 frame in
    let ends = closing s (before ++ turn) in
    let mid : with_got before from frame ++ xs ≡ before ++ turn = ap (λ ys. with_got before from frame ++ ys) (sym is) ∙ append_assoc before (n.Got from frame ∷ []) (demanded s before from.0 frame) in
    let whole : before ++ turn ++ ends ≡ before ++ (turn ++ ends) = append_assoc before turn ends in
    let same = same_closing s (before ++ turn) in
    record {
      members = ap members_at (sym whole) ∙ same.members ∙ ap members_at (sym mid);
      assigns = λ mon. ap (assigns_to mon) (sym whole) ∙ same.assigns mon ∙ ap (assigns_to mon) (sym mid);
    }

-- nor does a taken frame in front of what is sent
got_agrees : (before : List Noted) (from : Mon) (frame : Frame) (xs : List Noted) → Agree (before ++ xs) (with_got before from frame ++ xs)
got_agrees before from frame xs = record {
  members = members_at-append (with_got before from frame) xs ∙ ap (unwrap_or (Rattle.tk_base.specs.History.last_of (filter_map members_in xs))) (got_members before from frame) ∙ sym (members_at-append before xs);
  assigns = λ mon. assigns_to-append mon (with_got before from frame) xs ∙ ap (λ ys. ys ++ assigns_to mon xs) (got_assigns mon before from frame) ∙ sym (assigns_to-append mon before xs);
}

-- ---- Assigns to all

reports_count : (s : Setup) (reports : List Reported) → map (λ (r : Reported). r.mon.0) reports ≡ range_with_len 1 s.monitors → length reports ≡ s.monitors
reports_count s reports order = sym (length-map reports (λ (r : Reported). r.mon.0)) ∙ ap length order ∙ length-range_with_len 1 s.monitors

mon_is : (s : Setup) (reports : List Reported) (k : ℕ) (r : Reported) → map (λ (r : Reported). r.mon.0) reports ≡ range_with_len 1 s.monitors → k < length reports → get_or reports k r ≡ r → r.mon.0 ≡ 1 + k
mon_is s reports k r order within is =
    ap (λ (q : Reported). q.mon.0) (sym is) ∙ sym (get_or-map (λ (q : Reported). q.mon.0) reports k r 0 within) ∙ ap (λ xs. get_or xs k 0) order ∙ get_or-range_with_len 1 s.monitors k 0 (omega (arith, within, reports_count s reports order))

factor_dealt : (s : Setup) (j : List Noted) (members all : List ℕ) (grid : Grid) (parts : List Part) (b : Reported → ℤ) (reports : List Reported) (k : ℕ) (r : Reported) (o : ℕ) → map (λ (r : Reported). r.mon.0) reports ≡ range_with_len 1 s.monitors
    → k < length reports → get_or reports k r ≡ r → Contains all o
    → factor (1 + k) (j ++ sends j members (dealt_rows grid parts all 1 (map (λ q. monitor (b q) q) reports))) o ≡ new_factor grid parts (1 + k) (monitor (b r) r) o
factor_dealt s j members all grid parts b reports k r o order within is of =
    let f : Reported → Part = λ q. monitor (b q) q in
    let ps = map f reports in
    let rows = dealt_rows grid parts all 1 ps in
    let deal : ℕ → ℤ = λ q. new_factor grid parts (1 + k) (f r) q in
    let row : Row = ((f r).node, map (λ q. (q, deal q)) all) in
    let few : k < s.monitors = (let c = reports_count s reports order in omega (arith, within, c)) in
    let at : get_or rows k row ≡ row = dealt_at grid parts all 1 ps k row (f r) (omega (arith, within, length-map reports f)) (get_or-map f reports k r (f r) within ∙ ap f is) in
    let alone : filter (λ (e : Row). e.0 == 1 + k) rows ≡ row ∷ [] = row_place (λ (e : Row). e.0) 1 s.monitors rows k row (all_nodes grid parts all b reports ∙ order) few ∙ ap (λ (x : Row). x ∷ []) at in
    factor_sent j members rows (1 + k) o row alone ∙ ap (λ (v : Option ℤ). unwrap_or v (factor (1 + k) j o)) (value_put deal all o of)

-- the leeways of members are at least those of other objects
record AreRanked (grid : Grid) (parts : List Part) (members all : List ℕ) : Type 0 where
  among : (t : ℕ) → Contains members t → Contains all t
  ranked : (t o : ℕ) → Contains members t → (Contains members o → ⊥) → Contains all o → leeway grid parts o ≤ℤ leeway grid parts t

dealt_in_order : (s : Setup) (j : List Noted) (members all : List ℕ) (grid : Grid) (parts : List Part) (b : Reported → ℤ) (reports : List Reported) → map (λ (r : Reported). r.mon.0) reports ≡ range_with_len 1 s.monitors
    → AreRanked grid parts members all → (r : Reported) → Contains reports r → KeepsOrder (j ++ sends j members (dealt_rows grid parts all 1 (map (λ q. monitor (b q) q) reports))) r all
dealt_in_order s j members all grid parts b reports order ranks r (k, within, is) t o in' out of =
    let rows = dealt_rows grid parts all 1 (map (λ q. monitor (b q) q) reports) in
    let after = j ++ sends j members rows in
    let named : members_at after ≡ members = named_after j members rows (rows_some grid parts all b reports (omega (arith, within))) in
    let in_t = subst (λ ms. Contains ms t) named in' in
    let out_o : Contains members o → ⊥ = λ found. out (subst (λ ms. Contains ms o) (sym named) found) in
    let own = mon_is s reports k r order within is in
    let low : factor r.mon.0 after o ≡ new_factor grid parts (1 + k) (monitor (b r) r) o = ap (λ q. factor q after o) own ∙ factor_dealt s j members all grid parts b reports k r o order within is of in
    let high : factor r.mon.0 after t ≡ new_factor grid parts (1 + k) (monitor (b r) r) t = ap (λ q. factor q after t) own ∙ factor_dealt s j members all grid parts b reports k r t order within is (ranks.among t in_t) in
    let more = share_grows (weights_in parts) (1 + k) (leeway grid parts o) (leeway grid parts t) (ranks.ranked t o in_t out_o of) in
    omega (arith, ints, low, high, more)

wide_order : (s : Setup) (j : List Noted) (reports : List Reported) → IsWideAt s j reports → map (λ (r : Reported). r.mon.0) reports ≡ range_with_len 1 s.monitors → (r : Reported) → Contains reports r
    → KeepsOrder (j ++ assigns j (wide_at s j reports)) r (objects s.objects)
unfolding wide_decides
wide_order s j reports c order r in' =
    let setup = in_force s j in
    let grid = table_at s j in
    let present = members_at j in
    let all = objects setup.objects in
    let members = chosen setup present reports all in
    let parts = wide_parts setup members reports in
    subst (λ q. KeepsOrder (j ++ assigns j (wide_at s j reports)) r (objects q)) (force_objects s j)
    (dealt_in_order s j members all grid parts (λ _. pos 0) reports order (record {
      among = λ t found. picked_of (total reports) present all setup.k t found;
      ranked = λ t o found out of. wide_order_kept setup grid present reports t o c.called found out of;
    }) r in')

full_order : (s : Setup) (j : List Noted) (reports : List Reported) → IsFullAt s j reports → map (λ (r : Reported). r.mon.0) reports ≡ range_with_len 1 s.monitors → (r : Reported) → Contains reports r
    → KeepsOrder (j ++ assigns j (full_at s j reports)) r (objects_over reports)
unfolding full_decides
full_order s j reports c order r in' =
    let setup = in_force s j in
    let grid = table_at s j in
    let present = members_at j in
    let all = objects_over reports in
    let members = chosen setup present reports all in
    let parts = round_parts setup grid present members all reports in
    dealt_in_order s j members all grid parts (λ q. q.border) reports order (record {
      among = λ t found. picked_of (total reports) present all setup.k t found;
      ranked = λ t o found out of. full_ranked setup grid present all reports t o c.called found out of;
    }) r in'

-- ---- a round that ends

-- only awaited Values end one
values_at_end : (s : Setup) (before : List Noted) (from : Mon) (frame : Frame) (demands : List Noted) → is_open s before ≡ true → is_open s (with_got before from frame) ≡ false → Shape s before from frame demands → IsLastValues s before from frame
values_at_end s before from frame demands opened closed (Plain is fails same resting) = absurd (true≢false (sym opened ∙ sym same ∙ closed))
values_at_end s before from frame demands opened closed (Short border failed values fresh passes within is) = absurd (true≢false (sym opened ∙ fresh.closed))
values_at_end s before from frame demands opened closed (Wide border failed values fresh is) = absurd (true≢false (sym opened ∙ fresh.closed))
values_at_end s before from frame demands opened closed (Full border failed values fresh fails few lone is) = absurd (true≢false (sym opened ∙ fresh.closed))
values_at_end s before from frame demands opened closed (LoneEnd border failed values fresh fails few lone within is) = absurd (true≢false (sym opened ∙ fresh.closed))
values_at_end s before from frame demands opened closed (LoneWide border failed values fresh fails few lone is) = absurd (true≢false (sym opened ∙ fresh.closed))
values_at_end s before from frame demands opened closed (EndFull last full within is) = last
values_at_end s before from frame demands opened closed (EndOver last full is) = last
values_at_end s before from frame demands opened closed (EndWide last wide is) = last

wide_demands : (s : Setup) (before : List Noted) (from : Mon) (frame : Frame) (demands : List Noted) → is_open s before ≡ true → is_open s (with_got before from frame) ≡ false → is_wide s (with_got before from frame) ≡ true → Shape s before from frame demands
    → demands ≡ assigns (with_got before from frame) (wide_at s (with_got before from frame) (reports_at s (with_got before from frame)))
wide_demands s before from frame demands opened closed wide (Plain is fails same resting) = absurd (true≢false (sym opened ∙ sym same ∙ closed))
wide_demands s before from frame demands opened closed wide (Short border failed values fresh passes within is) = absurd (true≢false (sym opened ∙ fresh.closed))
wide_demands s before from frame demands opened closed wide (Wide border failed values fresh is) = absurd (true≢false (sym opened ∙ fresh.closed))
wide_demands s before from frame demands opened closed wide (Full border failed values fresh fails few lone is) = absurd (true≢false (sym opened ∙ fresh.closed))
wide_demands s before from frame demands opened closed wide (LoneEnd border failed values fresh fails few lone within is) = absurd (true≢false (sym opened ∙ fresh.closed))
wide_demands s before from frame demands opened closed wide (LoneWide border failed values fresh fails few lone is) = absurd (true≢false (sym opened ∙ fresh.closed))
wide_demands s before from frame demands opened closed wide (EndFull last full within is) = absurd (true≢false (sym wide ∙ full))
wide_demands s before from frame demands opened closed wide (EndOver last full is) = absurd (true≢false (sym wide ∙ full))
wide_demands s before from frame demands opened closed wide (EndWide last all is) = is

abbrev Ends : Setup → List Noted → Mon → Frame → Type 0
Ends s before from frame =
    let now = with_got before from frame in
    is_open s now ≡ false → is_wide s now ≡ false → is_within_limit (full_at s now (reports_at s now)) ≡ true → demanded s before from.0 frame ≡ assigns now (full_at s now (reports_at s now))

ends_full : (s : Setup) (before : List Noted) (from : Mon) (round seq : ℕ) (border : ℤ) (values : List (ℕ × ℤ)) → Ends s before from (f.Values round seq border values)
unfolding demanded kind_of
ends_full s before from round seq border values closed full within =
    let now = with_got before from (f.Values round seq border values) in
    let decided = full_at s now (reports_at s now) in
    ap (λ b. values_demand s now (if b then Note else End)) closed
    ∙ ap (λ b. if b then wide_end s now (reports_at s now) else full_end s now (rounds s now + 1) (reports_at s now)) full
    ∙ ap (λ b. if b then assigns now decided else wide_collects s (rounds s now + 1)) within

full_demands : (s : Setup) (before : List Noted) (from : Mon) (frame : Frame) → IsLastValues s before from frame → Ends s before from frame
full_demands s before from frame v = subst (λ (g : Frame). Ends s before from g) (sym v.is) (ends_full s before from v.round (assigns_sent from.0 before) v.border v.values)

-- what a round that ends has been told
record IsEnded (s : Setup) (now : List Noted) : Type 0 where
  ending : IsEnding s now (reports_at s now)
  over : List ℕ
  round : IsRoundOver s now over
  takes : All (CanTakePart (table_at s now) (members_at now) over) (reports_at s now)

ended : (o : Opening) (j : List Noted) (from : Mon) (frame : Frame) → IsRoundEnd o j from frame → IsEnded o.settings (with_got j from frame)
ended o j from frame e =
    let s = o.settings in
    let order = orderly o j e.set e.legal in
    let firm = legal_firm o j e.set e.legal in
    let v = values_at_end s j from frame (demanded s j from.0 frame) e.opened e.closed (shape s j from frame e.range e.accepted) in
    let had = firm.round e.opened in
    let r = round_got s j had.0 from frame e.range e.accepted e.opened order.openers had.1 in
    record {
      ending = ending_of s j from frame e.range e.accepted order v;
      over = had.0;
      round = r;
      takes = takes_at_end s j from frame had.0 (reports_at s (with_got j from frame)) refl r;
    }

pub all_reported : (o : Opening) (j : List Noted) (from : Mon) (frame : Frame) → IsRoundEnd o j from frame → AreReported o.settings (j ++ n.Got from frame ∷ [])
all_reported o j from frame e =
    let h = ended o j from frame e in
    record {
      over = h.over;
      reports = record { order = h.ending.all; values = λ k d below. (h.takes k d below).values };
      asked = λ mon list is. h.round.asked mon list is;
      wide = h.round.wide;
    }

pub wide_left : (o : Opening) (j : List Noted) (from : Mon) (frame : Frame) → IsRoundEnd o j from frame → is_wide o.settings (j ++ n.Got from frame ∷ []) ≡ true
    → All (λ r. KeepsOrder (j ++ turn_of o.settings j (n.Got from frame)) r (objects o.settings.objects)) (reports_at o.settings (j ++ n.Got from frame ∷ []))
wide_left o j from frame e wide =
    let s = o.settings in
    let now = with_got j from frame in
    let reports = reports_at s now in
    let firm = legal_firm o j e.set e.legal in
    let h = ended o j from frame e in
    let begins = wide_begins s now reports e.set.limits (got_tuned s j from frame firm.tuned) (got_sizes s j from frame firm.standing.sizes) (subst (λ xs. All (CanTakePart (table_at s now) (members_at now) xs) reports) (h.round.wide wide) h.takes) h.ending.all in
    let xs = assigns now (wide_at s now reports) in
    let agree = turn_agrees s j from frame xs (wide_demands s j from frame (demanded s j from.0 frame) e.opened e.closed wide (shape s j from frame e.range e.accepted)) in
    all_by (λ r. KeepsOrder (j ++ turn_of s j (n.Got from frame)) r (objects s.objects)) reports (λ r in'. order_by (now ++ xs) (j ++ turn_of s j (n.Got from frame)) r (objects s.objects) agree (wide_order s now reports begins h.ending.all r in'))

pub full_left : (o : Opening) (j : List Noted) (from : Mon) (frame : Frame) → IsRoundEnd o j from frame → is_wide o.settings (j ++ n.Got from frame ∷ []) ≡ false
    → is_within_limit (full_at o.settings (j ++ n.Got from frame ∷ []) (reports_at o.settings (j ++ n.Got from frame ∷ []))) ≡ true
    → All (λ r. KeepsOrder (j ++ turn_of o.settings j (n.Got from frame)) r (objects_over (reports_at o.settings (j ++ n.Got from frame ∷ [])))) (reports_at o.settings (j ++ n.Got from frame ∷ []))
full_left o j from frame e full within =
    let s = o.settings in
    let now = with_got j from frame in
    let reports = reports_at s now in
    let h = ended o j from frame e in
    let begins = full_at_end s j from frame e.set.limits e.range e.accepted (orderly o j e.set e.legal) (legal_firm o j e.set e.legal) e.closed e.opened full reports refl h.ending in
    let xs = assigns now (full_at s now reports) in
    let v = values_at_end s j from frame (demanded s j from.0 frame) e.opened e.closed (shape s j from frame e.range e.accepted) in
    let agree = turn_agrees s j from frame xs (full_demands s j from frame v e.closed full within) in
    all_by (λ r. KeepsOrder (j ++ turn_of s j (n.Got from frame)) r (objects_over reports)) reports (λ r in'. order_by (now ++ xs) (j ++ turn_of s j (n.Got from frame)) r (objects_over reports) agree (full_order s now reports begins h.ending.all r in'))

-- ---- the turn of a fresh Report

-- what it demands, by the tests that it passes
report_demanded : (s : Setup) (j : List Noted) (from : Mon) (seq : ℕ) (border : ℤ) (failed : List ℕ) (values : List (ℕ × ℤ)) (stale opened passes within few : Bool) → nat_lt seq (assigns_sent from.0 j) ≡ stale → is_open s j ≡ opened
    → passes_at s j (reported from.0 border values) ≡ passes → is_within_limit (short_at s j (reported from.0 border values)) ≡ within → nat_lt (streak s j) 8 ≡ few
    → demanded s j from.0 (f.Report seq border failed values) ≡ report_demands s j (reported from.0 border values) (kind_by stale opened passes within few)
unfolding demanded kind_of
report_demanded s j from seq border failed values stale opened passes within few a b c d e =
    let r = reported from.0 border values in
    ap (λ q. report_demands s j r (kind_by q (is_open s j) (passes_at s j r) (is_within_limit (short_at s j r)) (nat_lt (streak s j) 8))) a
    ∙ ap (λ q. report_demands s j r (kind_by stale q (passes_at s j r) (is_within_limit (short_at s j r)) (nat_lt (streak s j) 8))) b
    ∙ ap (λ q. report_demands s j r (kind_by stale opened q (is_within_limit (short_at s j r)) (nat_lt (streak s j) 8))) c
    ∙ ap (λ q. report_demands s j r (kind_by stale opened passes q (nat_lt (streak s j) 8))) d
    ∙ ap (λ q. report_demands s j r (kind_by stale opened passes within q)) e

-- what is known where one comes in
record IsTold (o : Opening) (j : List Noted) (from : Mon) (border : ℤ) (failed : List ℕ) (values : List (ℕ × ℤ)) : Type 0 where
  firm : IsFirm o.settings j
  over : IsResolving (known_by o.settings from.0 j) border failed values
  among : AreRoundObjects o.settings j (objects_of values)

told : (o : Opening) (j : List Noted) (from : Mon) (border : ℤ) (failed : List ℕ) (values : List (ℕ × ℤ)) → IsFreshTurn o j from border failed values → IsTold o j from border failed values
told o j from border failed values e =
    let s = o.settings in
    let number = assigns_sent from.0 j in
    let firm = legal_firm o j e.set e.legal in
    let over = report_takes_part (known_by s from.0 j) border failed values e.range.from_one (let w = e.range.within in let z = table_size s j in omega (arith, w, z)) (fresh_content s j from number border failed values e.accepted (le-ltb number number (omega arith))) in
    record { firm = firm; over = over; among = report_objects s j failed (objects_of values) firm.standing over.objects }

-- with one monitor a full round ends in its turn
lone_order : (from m : ℕ) → m ≡ 1 → 1 ≤ from → from ≤ m → from ∷ [] ≡ range_with_len 1 m
lone_order from m one low high =
    let own : from ≡ 1 = omega (arith, one, low, high) in
    ap (λ q. q ∷ []) own ∙ ap (range_with_len 1) (sym one)

full_now : (s : Setup) (j : List Noted) (next : ℕ) (reports : List Reported) → is_within_limit (full_at s j reports) ≡ true → full_end s j next reports ≡ assigns j (full_at s j reports)
full_now s j next reports within = ap (λ b. if b then assigns j (full_at s j reports) else wide_collects s next) within

pub lone_left : (o : Opening) (j : List Noted) (from : Mon) (border : ℤ) (failed : List ℕ) (values : List (ℕ × ℤ)) → IsLoneTurn o j from border failed values
    → KeepsOrder (j ++ turn_of o.settings j (n.Got from (f.Report (assigns_sent from.0 j) border failed values))) (reported from.0 border values) (objects_of values)
lone_left o j from border failed values e =
    let s = o.settings in
    let number = assigns_sent from.0 j in
    let frame = f.Report number border failed values in
    let report = reported from.0 border values in
    let t = told o j from border failed values e.fresh in
    let order = lone_order from.0 s.monitors e.one e.fresh.range.from_one e.fresh.range.within in
    let begins = full_begins s j (objects_of values) (report ∷ []) e.fresh.set.limits t.firm.tuned t.firm.standing t.among.among t.among.within t.among.positive t.among.ascends
    (one_report (CanTakePart (table_at s j) (members_at j) (objects_of values)) report t.over.takes) order in
    let xs = assigns j (full_at s j (report ∷ [])) in
    let demands : demanded s j from.0 frame ≡ xs =
    report_demanded s j from number border failed values false false false (is_within_limit (short_at s j report)) true (le-ltb number number (omega arith)) e.fresh.closed e.fails refl (lt-ltb (streak s j) 8 e.few)
    ∙ ap (λ b. if b then full_end s j (rounds s j + 1 + 1) (report ∷ []) else collects (rounds s j + 1) (objects_of values) (filter (λ mon. not (mon == from.0)) (monitors s))) (eq-eqb s.monitors 1 e.one)
    ∙ full_now s j (rounds s j + 1 + 1) (report ∷ []) e.within in
    order_by (j ++ xs) (j ++ turn_of s j (n.Got from frame)) report (objects_of values) (agree_trans (j ++ xs) (with_got j from frame ++ xs) (j ++ turn_of s j (n.Got from frame)) (got_agrees j from frame xs) (turn_agrees s j from frame xs demands))
    (full_order s j (report ∷ []) begins order report (0, omega arith, refl))

-- ---- a short round

-- the Assigns of a short round
pub short_is : (s : Setup) (j : List Noted) (report : Reported) → assigns j (short_at s j report) ≡ sends j (members_at j) (short_sent s j report ∷ [])
unfolding short_decides
short_is s j report = refl

-- members and factors at the end of its turn are those behind its one Assign
short_agrees : (o : Opening) (j : List Noted) (from : Mon) (border : ℤ) (failed : List ℕ) (values : List (ℕ × ℤ)) → IsShortTurn o j from border failed values
    → Agree (j ++ sends j (members_at j) (short_sent o.settings j (reported from.0 border values) ∷ [])) (j ++ turn_of o.settings j (n.Got from (f.Report (assigns_sent from.0 j) border failed values)))
short_agrees o j from border failed values e =
    let s = o.settings in
    let number = assigns_sent from.0 j in
    let frame = f.Report number border failed values in
    let report = reported from.0 border values in
    let xs = sends j (members_at j) (short_sent s j report ∷ []) in
    let demands : demanded s j from.0 frame ≡ xs =
    report_demanded s j from number border failed values false false true true (nat_lt (streak s j) 8) (le-ltb number number (omega arith)) e.fresh.closed e.passes e.within refl ∙ short_is s j report in
    agree_trans (j ++ xs) (with_got j from frame ++ xs) (j ++ turn_of s j (n.Got from frame)) (got_agrees j from frame xs) (turn_agrees s j from frame xs demands)

short_factor : (s : Setup) (j : List Noted) (report : Reported) (o : ℕ) → Contains (objects_of report.values) o
    → factor report.mon.0 (j ++ sends j (members_at j) (short_sent s j report ∷ [])) o
    ≡ new_factor (table_at s j) (round_parts (in_force s j) (table_at s j) (members_at j) (members_at j) (objects_of report.values) (report ∷ [])) 1 (monitor report.border report) o
short_factor s j report o of =
    let all = objects_of report.values in
    let mon = report.mon.0 in
    let row = short_sent s j report in
    let deal : ℕ → ℤ = λ q. new_factor (table_at s j) (round_parts (in_force s j) (table_at s j) (members_at j) (members_at j) all (report ∷ [])) 1 (monitor report.border report) q in
    factor_sent j (members_at j) (row ∷ []) mon o row (ap (λ b. if b then row ∷ [] else []) (eq-eqb mon mon refl)) ∙ ap (λ (v : Option ℤ). unwrap_or v (factor mon j o)) (value_put deal all o of)

pub short_left : (o : Opening) (j : List Noted) (from : Mon) (border : ℤ) (failed : List ℕ) (values : List (ℕ × ℤ)) → IsShortTurn o j from border failed values
    → KeepsOrder (j ++ turn_of o.settings j (n.Got from (f.Report (assigns_sent from.0 j) border failed values))) (reported from.0 border values) (objects_of values)
short_left o j from border failed values e =
    let s = o.settings in
    let report = reported from.0 border values in
    let present = members_at j in
    let all = objects_of values in
    let row = short_sent s j report in
    let after = j ++ sends j present (row ∷ []) in
    let grid = table_at s j in
    let parts = round_parts (in_force s j) grid present present all (report ∷ []) in
    let t' = told o j from border failed values e.fresh in
    let pass = passed (in_force s j) grid present report e.passes in
    let named : members_at after ≡ present = named_after j present (row ∷ []) (omega arith) in
    order_by after (j ++ turn_of s j (n.Got from (f.Report (assigns_sent from.0 j) border failed values))) report all (short_agrees o j from border failed values e) (λ t o' in' out of.
    let in_t = subst (λ ms. Contains ms t) named in' in
    let out_o : Contains present o' → ⊥ = λ found. out (subst (λ ms. Contains ms o') (sym named) found) in
    let low = short_factor s j report o' of in
    let high = short_factor s j report t (All-contains (Contains all) present t t'.among.among in_t) in
    let more = share_grows (weights_in parts) 1 (leeway grid parts o') (leeway grid parts t) (pass t o' in_t out_o of) in
    omega (arith, ints, low, high, more))

pub short_calm : (o : Opening) (j : List Noted) (from : Mon) (border : ℤ) (failed : List ℕ) (values : List (ℕ × ℤ)) (value : ℕ → ℤ) → IsShortTurn o j from border failed values → AreSpokenOf o.settings j (reported from.0 border values) value
    → is_strained (levels_with o.settings (j ++ turn_of o.settings j (n.Got from (f.Report (assigns_sent from.0 j) border failed values))) from.0 value) (members_at (j ++ turn_of o.settings j (n.Got from (f.Report (assigns_sent from.0 j) border failed values)))) ≡ false
short_calm o j from border failed values value e h =
    let s = o.settings in
    let report = reported from.0 border values in
    let present = members_at j in
    let row = short_sent s j report in
    let after = j ++ sends j present (row ∷ []) in
    let end = j ++ turn_of s j (n.Got from (f.Report (assigns_sent from.0 j) border failed values)) in
    let agree = short_agrees o j from border failed values e in
    let t = told o j from border failed values e.fresh in
    let firm = t.firm in
    let levels : levels_with s end from.0 value ≡ levels_with s after from.0 value = map_same (λ q. value q +ℤ factor from.0 end q) (λ q. value q +ℤ factor from.0 after q) (objects s.objects) (λ q. ap (λ z. value q +ℤ z) (factor_by after end agree.assigns from.0 q)) in
    let named : members_at end ≡ present = agree.members ∙ named_after j present (row ∷ []) (omega arith) in
    ap (λ ls. is_strained ls (members_at end)) levels ∙ ap (is_strained (levels_with s after from.0 value)) named
    ∙ short_mends (in_force s j) (table_at s j) present report (levels_with s j from.0 value) (levels_with s after from.0 value) (record {
      ready = ready_over s j (objects_of values) firm.standing t.among.among t.among.within;
      takes = t.over.takes;
      test = passed (in_force s j) (table_at s j) present report e.passes;
      some = (let a = firm.standing.chosen.count in let b = (force_limits s j e.fresh.set.limits firm.tuned).some_member in omega (arith, a, b));
      count = count_levels s.objects (λ q. value q +ℤ factor from.0 j q) ∙ sym (rows_count s j);
      positive = λ q found. (object_of s present present q firm.standing.chosen.ascends firm.standing.chosen.within found).from_one;
      now = h.present;
      levelled = short_levelled s j report s.objects value h.same;
    })
