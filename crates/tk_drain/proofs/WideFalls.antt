-- The end of a wide round fits its record: where all are present nobody is strained behind it.
use Rattle.tk_frames.specs.declared.frame.Frame.TheVariants as f
use Rattle.tk_journal.specs.declared.noted.Noted.TheVariants as n
use Rattle.std.proofs.Common.{◌≡◌, ℕ, suc, zero, ◌+◌, ◌-◌, ◌≤◌, ◌<◌, ◌&&◌, ℤ, pos, ◌+ℤ◌, Bool, true, false, not, List, [], ◌∷◌, ◌++◌, length, map, get_or, Contains, Option, Some, None, refl, sym, ap, ◌∙◌, subst, arith}
use Rattle.std.specs.Prelude.{is_some, filter_map, if◌then◌else◌}
use Rattle.std.specs.List.{All, cons_option, range_with_len}
use Rattle.std.proofs.lemmas.Bool.{false≢true, true≢false}
use Rattle.std.proofs.lemmas.List.{length-map}
use Rattle.std.proofs.lemmas.List.FromFn.{length-range_with_len}
use Rattle.tk_base.specs.Objects.{objects}
use Rattle.tk_base.specs.Pairs.{objects_of}
use Rattle.tk_base.specs.Settings.{Setup}
use Rattle.tk_base.specs.declared.ids.Mon.{Mon}
use Rattle.tk_base.proofs.ListLemmas.{none_in_range}
use Rattle.tk_frames.specs.declared.frame.Frame.{Frame}
use Rattle.tk_rows.specs.Factors.{IsFactor}
use Rattle.tk_alloc.specs.declared.reported.Reported.{Reported}
use Rattle.tk_alloc.specs.Parts.{monitor, value_of}
use Rattle.tk_alloc.specs.Resolving.{CanTakePart}
use Rattle.tk_alloc.specs.Rounds.{chosen, wide_parts}
use Rattle.tk_alloc.proofs.WideLemmas.{in_catalogue}
use Rattle.tk_journal.specs.Deciding.{report_of, reports_at, wide_decides}
use Rattle.tk_journal.specs.Laws.{IsMonitor}
use Rattle.tk_journal.specs.Legal.{start}
use Rattle.tk_journal.specs.Links.{frames_from}
use Rattle.tk_journal.specs.Readings.{asked_of, assigns_sent, assigns_to, factor, in_force, is_open, last_round, members_at, table_at, values_of, waits_for}
use Rattle.tk_journal.specs.Turns.{assigns, demanded, is_wide, wide_at}
use Rattle.tk_journal.specs.declared.noted.Noted.{Noted}
use Rattle.tk_journal.proofs.Appends.{frames_from-append}
use Rattle.tk_journal.proofs.Batches.{named_members}
use Rattle.tk_journal.proofs.Dealing.{dealt_rows}
use Rattle.tk_journal.proofs.Ending.{IsWideAt}
use Rattle.tk_journal.proofs.Firm.{got_tuned, wide_begins}
use Rattle.tk_journal.proofs.FirmTurns.{takes_at_end}
use Rattle.tk_journal.proofs.Orderly.{Row, sends, wide_nodes}
use Rattle.tk_journal.proofs.Pieces.{got_assigns, got_sent}
use Rattle.tk_journal.proofs.Reports.{in_range_any}
use Rattle.tk_journal.proofs.Same.{factor_by, own_by}
use Rattle.tk_journal.proofs.Sound.{round_got}
use Rattle.tk_journal.proofs.SoundLemmas.{legal_firm}
use Rattle.tk_journal.proofs.Tables.{AreSized}
use Rattle.tk_journal.proofs.Tuning.{force_limits, force_objects}
use Rattle.tk_trail.specs.Readings.{sent_by, value_of_object}
use Rattle.tk_drain.specs.Energy.{Local}
use Rattle.tk_drain.specs.Moves.{Ends}
use Rattle.tk_journal.specs.Shapes.{IsLastValues}
use Rattle.tk_alloc.specs.Strain.{is_strained}
use Rattle.tk_trail.specs.Still.{is_present}
use Rattle.tk_journal.proofs.GatheredLemmas.{gathered_are_fresh, got_gathered}
use Rattle.tk_drain.proofs.GivenLemmas.{values_of_present}
use Rattle.tk_journal.proofs.GrowLemmas.{with_got}
use Rattle.tk_story.proofs.JoinLemmas.{front_has}
use Rattle.tk_journal.proofs.LevelledLemmas.{levels_by, wide_levelled, count_levels}
use Rattle.tk_alloc.proofs.MendLemmas.{wide_mends}
use Rattle.tk_story.specs.Story.{StoryView, setup_of, trail_of}
use Rattle.tk_story.proofs.QuietLemmas.{joined}
use Rattle.tk_drain.specs.Reads.{levels_then, local_of, readings}
use Rattle.tk_drain.proofs.ReadLemmas.{local_own}
use Rattle.tk_drain.proofs.TurnReads.{Turning, goes_by, got_more, mid, same_mid, stops_count, strained_by, turned, turns_by}
use Rattle.tk_drain.proofs.AssignFalls.{ending_of, sent_all, values_pass}
use Rattle.tk_world.proofs.EnabledLemmas.{there_is}
use Rattle.tk_drain.proofs.MoveLemmas.{all_at}

got_sizes : (s : Setup) (j : List Noted) (from : Mon) (frame : Frame) → AreSized s j → AreSized s (with_got j from frame)
got_sizes s j from frame z = record {
  own = λ o r. subst IsFactor (sym (own_by s j (with_got j from frame) (λ mon. got_assigns mon j from frame) o)) (z.own o r);
  each = λ o mon r m. subst IsFactor (sym (factor_by j (with_got j from frame) (λ q. got_assigns q j from frame) mon o)) (z.each o mon r m);
}

-- ---- the reports to a wide round that has ended

values_there : (asked : Bool) (values : Option Reported) → asked ≡ true → (asked && not (is_some values)) ≡ false → is_some values ≡ true
values_there true (Some r) is none = refl
values_there true None is none = absurd (true≢false none)
values_there false values is none = absurd (false≢true is)

asked_all : (s : Setup) (j : List Noted) (mon : ℕ) → IsMonitor s mon → is_wide s j ≡ true → is_some (asked_of (last_round j) mon j) ≡ true
unfolding is_wide
asked_all s j mon m wide = all_at (λ q. is_some (asked_of (last_round j) q j)) 1 s.monitors mon m.from_one (let w = m.within in omega (arith, w)) wide

waits_not : (s : Setup) (j : List Noted) (mon : ℕ) → IsMonitor s mon → is_open s j ≡ false → waits_for (last_round j) mon j ≡ false
unfolding is_open
waits_not s j mon m closed = in_range_any (λ q. waits_for (last_round j) q j) 1 s.monitors mon m.from_one (let w = m.within in omega (arith, w)) closed

got_values_of : (s : Setup) (j : List Noted) (mon : ℕ) → IsMonitor s mon → is_wide s j ≡ true → is_open s j ≡ false → is_some (values_of (last_round j) mon j) ≡ true
unfolding waits_for
got_values_of s j mon m wide closed = values_there (is_some (asked_of (last_round j) mon j)) (values_of (last_round j) mon j) (asked_all s j mon m wide) (waits_not s j mon m closed)

report_is_values : (s : Setup) (j : List Noted) (mon : ℕ) → IsMonitor s mon → is_wide s j ≡ true → report_of mon j ≡ values_of (last_round j) mon j
unfolding report_of
report_is_values s j mon m wide = ap (λ b. if b then values_of (last_round j) mon j else Rattle.tk_journal.specs.Deciding.answered_report mon (Rattle.tk_journal.specs.Readings.answer_of mon j)) (asked_all s j mon m wide)

nth_of : (h : ℕ → Option Reported) (a m k : ℕ) (d : Reported) → ((q : ℕ) → a ≤ q → q < a + m → is_some (h q) ≡ true) → k < m → h (a + k) ≡ Some (get_or (filter_map h (range_with_len a m)) k d)
nth_of h a zero k d each within = absurd (omega (arith, within))
nth_of h a (suc m) zero d each within =
    let r = there_is (h a) (each a (omega arith) (omega arith)) in
    let here : a + 0 ≡ a = omega arith in
    ap h here ∙ r.1 ∙ ap (λ (o : Option Reported). Some (get_or (cons_option o (filter_map h (range_with_len (a + 1) m))) 0 d)) (sym r.1)
nth_of h a (suc m) (suc k) d each within =
    let r = there_is (h a) (each a (omega arith) (omega arith)) in
    let next : a + suc k ≡ a + 1 + k = omega arith in
    ap h next ∙ nth_of h (a + 1) m k d (λ q low high. each q (omega (arith, low)) (omega (arith, high))) (omega (arith, within))
    ∙ ap (λ (o : Option Reported). Some (get_or (cons_option o (filter_map h (range_with_len (a + 1) m))) (suc k) d)) (sym r.1)

nth_report : (s : Setup) (j : List Noted) (k : ℕ) (d : Reported) → k < s.monitors → is_wide s j ≡ true → is_open s j ≡ false → values_of (last_round j) (1 + k) j ≡ Some (get_or (reports_at s j) k d)
unfolding reports_at
nth_report s j k d few wide closed =
    sym (report_is_values s j (1 + k) (record { from_one = omega arith; within = omega (arith, few) }) wide)
    ∙ nth_of (λ q. report_of q j) 1 s.monitors k d (λ q low high.
    let m : IsMonitor s q = record { from_one = low; within = omega (arith, high) } in
    ap (λ (o : Option Reported). is_some o) (report_is_values s j q m wide) ∙ got_values_of s j q m wide closed) few

-- ---- they are of the present values

got_now : (s : StoryView) (from : Mon) (frame : Frame) → Turning s from frame → (q : ℕ) → frames_from q (turned s from frame).journal ≡ frames_from q (with_got s.journal from frame)
got_now s from frame t q = got_more s from frame t q ∙ sym (frames_from-append q s.journal (n.Got from frame ∷ []))

wide_values : (s : StoryView) (from : Mon) (frame : Frame) → Turning s from frame → IsLastValues s.settings s.journal from frame → (q : ℕ) → IsMonitor s.settings q → is_present (assigns_sent q s.journal) (trail_of s q) ≡ true
    → (r : Reported) → values_of (last_round (with_got s.journal from frame)) q (with_got s.journal from frame) ≡ Some r → (o : ℕ) → Contains (objects_of r.values) o → value_of_object (setup_of s q) (trail_of s q) o ≡ value_of r.values o
wide_values s from frame t v q m present r is o of =
    let st = s.settings in
    let j = s.journal in
    let now = with_got j from frame in
    let linked = joined s t.story q m in
    let g = got_gathered st j from frame q t.none (gathered_are_fresh (start st) j q linked.set linked.journal m v.opened) r is in
    let g' = subst (λ c. Contains (frames_from q now) (f.Values (last_round now) c r.border r.values)) (got_sent q j from frame) g in
    let there = subst (λ xs. Contains xs (f.Values (last_round now) (assigns_sent q j) r.border r.values)) (sym (got_now s from frame t q)) g' in
    values_of_present (start st) j q (setup_of s q) (trail_of s q) (last_round now) r.border r.values linked (front_has (f.Values (last_round now) (assigns_sent q j) r.border r.values) (frames_from q (turned s from frame).journal) (sent_by (trail_of s q)) (t.after.links q m).up there) present o of

-- ---- what the round decides

abbrev wide_rows : Setup → List Noted → List Row
wide_rows s j = let reports = reports_at s j in dealt_rows (table_at s j) (wide_parts (in_force s j) (chosen (in_force s j) (members_at j) reports (objects (in_force s j).objects)) reports) (objects (in_force s j).objects) 1 (map (monitor (pos 0)) reports)

abbrev wide_members : Setup → List Noted → List ℕ
wide_members s j = chosen (in_force s j) (members_at j) (reports_at s j) (objects (in_force s j).objects)

wide_is : (s : Setup) (j : List Noted) → assigns j (wide_at s j (reports_at s j)) ≡ sends j (wide_members s j) (wide_rows s j)
unfolding wide_decides
wide_is s j = refl

wide_rows_nodes : (s : Setup) (j : List Noted) → map (λ (d : Row). d.0) (wide_rows s j) ≡ map (λ (r : Reported). r.mon.0) (reports_at s j)
unfolding wide_decides
wide_rows_nodes s j = wide_nodes s j (reports_at s j)

members_after : (j : List Noted) (ms : List ℕ) (rows : List Row) (k : ℕ) → map (λ (d : Row). d.0) rows ≡ range_with_len 1 (suc k) → members_at (j ++ sends j ms rows) ≡ ms
members_after j ms [] k is = absurd (cc)
members_after j ms (d ∷ rows) k is = named_members j (λ (x : Row). x.0) (λ x. assigns_sent x.0 j + 1) ms (λ x. x.1) d rows

record WideTurn (s : StoryView) (from : Mon) (frame : Frame) : Type 0 where
  begins : IsWideAt s.settings (with_got s.journal from frame) (reports_at s.settings (with_got s.journal from frame))
  takes : All (CanTakePart (table_at s.settings (with_got s.journal from frame)) (members_at (with_got s.journal from frame)) (objects s.settings.objects)) (reports_at s.settings (with_got s.journal from frame))
  nodes : map (λ (d : Row). d.0) (wide_rows s.settings (with_got s.journal from frame)) ≡ range_with_len 1 s.settings.monitors
  assigns : (q : ℕ) → assigns_to q (turned s from frame).journal ≡ assigns_to q (with_got s.journal from frame ++ sends (with_got s.journal from frame) (wide_members s.settings (with_got s.journal from frame)) (wide_rows s.settings (with_got s.journal from frame)))
  members : members_at (turned s from frame).journal ≡ wide_members s.settings (with_got s.journal from frame)
  behind : members_at (with_got s.journal from frame ++ sends (with_got s.journal from frame) (wide_members s.settings (with_got s.journal from frame)) (wide_rows s.settings (with_got s.journal from frame))) ≡ wide_members s.settings (with_got s.journal from frame)

wide_turn : (s : StoryView) (from : Mon) (frame : Frame) → Turning s from frame → IsLastValues s.settings s.journal from frame → is_wide s.settings (with_got s.journal from frame) ≡ true
    → demanded s.settings s.journal from.0 frame ≡ assigns (with_got s.journal from frame) (wide_at s.settings (with_got s.journal from frame) (reports_at s.settings (with_got s.journal from frame))) → WideTurn s from frame
wide_turn s from frame t v wide e =
    let st = s.settings in
    let j = s.journal in
    let now = with_got j from frame in
    let linked = joined s t.story from.0 t.monitor in
    let firm = legal_firm (start st) j linked.set linked.journal in
    let had = firm.round v.opened in
    let r = round_got st j had.0 from frame t.monitor t.none v.opened t.order.openers had.1 in
    let takes = subst (λ xs. All (CanTakePart (table_at st now) (members_at now) xs) (reports_at st now)) (r.wide wide) (takes_at_end st j from frame had.0 (reports_at st now) refl r) in
    let ending = ending_of st j from frame t.monitor t.none t.order v in
    let same = same_mid s from frame in
    let is : mid s from frame ≡ now ++ sends now (wide_members st now) (wide_rows st now) = ap (λ xs. now ++ xs) (e ∙ wide_is st now) in
    let nodes = wide_rows_nodes st now ∙ ending.all in
    let behind = members_after now (wide_members st now) (wide_rows st now) t.k (nodes ∙ ap (range_with_len 1) t.some) in
    record {
      begins = wide_begins st now (reports_at st now) t.story.limits (got_tuned st j from frame firm.tuned) (got_sizes st j from frame firm.standing.sizes) takes ending.all;
      takes = takes;
      nodes = nodes;
      assigns = λ q. same.assigns q ∙ ap (assigns_to q) is;
      members = same.members ∙ ap members_at is ∙ behind;
      behind = behind;
    }

get_or_any : (xs : List Reported) (k : ℕ) (d : Reported) → k < length xs → get_or xs k (get_or xs k d) ≡ get_or xs k d
get_or_any [] k d within = absurd (omega (arith, within))
get_or_any (x ∷ xs) zero d within = refl
get_or_any (x ∷ xs) (suc k) d within = get_or_any xs k d (omega (arith, within))

wide_sound : (s : StoryView) (from : Mon) (frame : Frame) → Turning s from frame → IsLastValues s.settings s.journal from frame → is_wide s.settings (with_got s.journal from frame) ≡ true → WideTurn s from frame
    → (k : ℕ) → k < s.settings.monitors → is_present (assigns_sent (1 + k) s.journal) (trail_of s (1 + k)) ≡ true → (local_of (turned s from frame) (1 + k)).strained ≡ false
wide_sound s from frame t v wide a k few present =
    let st = s.settings in
    let j = s.journal in
    let now = with_got j from frame in
    let s' = turned s from frame in
    let j' = s'.journal in
    let q = 1 + k in
    let m : IsMonitor st q = record { from_one = omega arith; within = omega (arith, few) } in
    let setup = setup_of s q in
    let trail = trail_of s q in
    let inner = in_force st now in
    let reports = reports_at st now in
    let d : Reported = record { mon = record { 0 = q }; values = []; border = pos 0 } in
    let report = get_or reports k d in
    let value : ℕ → ℤ = λ o. value_of_object setup trail o in
    let ms = wide_members st now in
    let rows = wide_rows st now in
    let behind = now ++ sends now ms rows in
    let size = force_objects st now in
    let called = a.begins.called in
    let ending = ending_of st j from frame t.monitor t.none t.order v in
    let many : length reports ≡ st.monitors = sym (length-map reports (λ (r : Reported). r.mon.0)) ∙ ap (λ (xs : List ℕ). length xs) ending.all ∙ length-range_with_len 1 st.monitors in
    let within : k < length reports = omega (arith, few, many) in
    let is = nth_report st now k d few wide v.closed in
    let over : objects_of report.values ≡ objects st.objects = (a.takes k d within).values.same in
    let same : (o : ℕ) → 0 < o → o ≤ inner.objects → value o ≡ value_of report.values o = λ o some most.
    wide_values s from frame t v q m present report is o (subst (λ xs. Contains xs o) (sym over) (in_catalogue st.objects o some (omega (arith, most, size)))) in
    let self : get_or reports k report ≡ report = get_or_any reports k d within in
    let after = levels_by inner.objects value (λ o. factor q behind o) in
    let firm' = legal_firm (start st) j' (joined s' t.after q m).set (joined s' t.after q m).journal in
    let mended = wide_mends inner (table_at st now) (members_at now) reports k report after (record {
      limits = called.limits;
      size = called.size;
      balanced = called.balanced;
      reported = called.reported;
      some = (let x = firm'.standing.chosen.count in let y = (force_limits st j' t.story.limits firm'.tuned).some_member in let z = ap (λ (xs : List ℕ). length xs) a.members in omega (arith, x, y, z));
      count = count_levels inner.objects (λ o. value o +ℤ factor q behind o);
      dealt = λ o some most. wide_levelled st now ms (table_at st now) (wide_parts inner ms reports) reports inner.objects k report value same a.nodes few within self o some most;
    }) in
    ap (λ (l : Local). l.strained) (local_own s' q m)
    ∙ strained_by setup trail q behind j' (a.assigns q) (a.members ∙ sym a.behind)
    ∙ ap (λ xs. is_strained (levels_then setup trail q behind) xs) a.behind
    ∙ ap (λ (c : ℕ). is_strained (levels_by c value (λ o. factor q behind o)) ms) (sym size)
    ∙ mended

pub end_wide_fits : (s : StoryView) (from : Mon) (frame : Frame) → Turning s from frame → IsLastValues s.settings s.journal from frame → is_wide s.settings (with_got s.journal from frame) ≡ true
    → demanded s.settings s.journal from.0 frame ≡ assigns (with_got s.journal from frame) (wide_at s.settings (with_got s.journal from frame) (reports_at s.settings (with_got s.journal from frame)))
    → Ends s.settings.monitors from.0 (stops_count s.settings (mid s from frame)) (readings s) (readings (turned s from frame)) (λ _. 1)
end_wide_fits s from frame t v wide e =
    let st = s.settings in
    let now = with_got s.journal from frame in
    let reports = reports_at st now in
    let ending = ending_of st s.journal from frame t.monitor t.none t.order v in
    let a = sent_all s from frame t (wide_at st now reports) e (wide_nodes st now reports ∙ ending.all) v.closed in
    let w = wide_turn s from frame t v wide e in
    record {
      turn = turns_by s from frame t (λ _. 1) a.few;
      most = λ q. omega arith;
      goes = goes_by s from frame t false (values_pass st s.journal from frame v);
      opened = v.opened;
      closed = a.closed;
      renewed = a.renewed;
      mended = λ _ all. none_in_range (λ q. (local_of (turned s from frame) q).strained) 1 st.monitors (λ mon low high.
          let k = mon - 1 in
          let back : 1 + (mon - 1) ≡ mon = omega (arith, low) in
          let m : IsMonitor st mon = record { from_one = low; within = omega (arith, high) } in
          let here : is_present (assigns_sent mon s.journal) (trail_of s mon) ≡ true = sym (ap (λ (l : Local). l.present) (local_own s mon m)) ∙ all_at (λ q. (local_of s q).present) 1 st.monitors mon low high all in
          subst (λ (z : ℕ). (local_of (turned s from frame) z).strained ≡ false) back
          (wide_sound s from frame t v wide w (mon - 1) (omega (arith, low, high)) (subst (λ (z : ℕ). is_present (assigns_sent z s.journal) (trail_of s z) ≡ true) (sym back) here)));
    }
