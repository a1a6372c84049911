-- Every legal journal is orderly: by one induction over its turns.
use Rattle.std.proofs.Common.{◌≡◌, ℕ, suc, zero, Bool, true, false, not, ◌+◌, ◌==◌, List, [], ◌∷◌, ◌++◌, Some, None, refl, sym, ap, ◌∙◌, subst, arith, inl, inr}
use Rattle.std.specs.Prelude.{ℤ, nat_lt, filter, if◌then◌else◌}
use Rattle.std.specs.List.{range_with_len}
use Rattle.std.proofs.lemmas.Bool.{eqb-true, eq-eqb, ltb-false, true≢false}
use Rattle.tk_base.specs.Settings.{Setup}
use Rattle.tk_base.specs.Objects.{is_in}
use Rattle.tk_base.specs.Pairs.{objects_of}
use Rattle.tk_base.specs.declared.ids.Mon.{Mon}
use Rattle.tk_base.proofs.ListLemmas.{any_in_range}
use Rattle.tk_frames.specs.declared.frame.Frame.{Frame}
use Rattle.tk_frames.specs.declared.frame.Frame.TheVariants as f
use Rattle.tk_alloc.specs.declared.reported.Reported.{Reported}
use Rattle.tk_journal.specs.Readings.{monitors, assigns_sent, answer_of, last_round, waits_for, is_open}
use Rattle.tk_journal.specs.Deciding.{reports_at, is_within_limit}
use Rattle.tk_journal.specs.declared.turn.TurnKind.{TurnKind}
use Rattle.tk_journal.specs.declared.turn.TurnKind.TheVariants.{Stale, Note, Short, Wide, Full, End}
use Rattle.tk_journal.specs.Turns.{reported, passes_at, short_at, full_at, wide_at, streak, kind_of, rounds, collects, wide_collects, full_end, wide_end, is_wide, full_turn, report_demands, values_demand, demanded}
use Rattle.tk_journal.specs.Refusal.{refusal_of, shown_by, known_by, refusal_of_report, is_report}
use Rattle.tk_journal.specs.declared.noted.Noted.{Noted}
use Rattle.tk_journal.specs.declared.noted.Noted.TheVariants as n
use Rattle.tk_journal.proofs.Pieces.{got_answer, got_round}
use Rattle.tk_journal.specs.Laws.{IsMonitor}
use Rattle.tk_journal.proofs.Reports.{all_there}
use Rattle.tk_journal.proofs.Accepted.{accepted_kind, accepted_answer, accepted_values, awaited_waits}
use Rattle.tk_journal.proofs.Rounding.{openers_kept, open_got, all_reported}
use Rattle.tk_journal.proofs.Orderly.{IsOrderly, IsEnding, IsReporting, orderly_got, orderly_collects, orderly_full_end, ending_assigns, nothing_more, assigns_got, full_nodes, wide_nodes, turn_short, turn_wide, others_of, not_other}

-- ---- a full round

several : (s : Setup) (before : List Noted) (from : Mon) (frame : Frame) (k : ℕ) (report : Reported) → report.mon.0 ≡ from.0 → s.monitors ≡ suc (suc k) → IsReporting s before from frame (suc k)
    → IsOrderly s (before ++ n.Got from frame ∷ [] ++ collects (rounds s before + 1) (objects_of report.values) (filter (λ mon. not (mon == report.mon.0)) (monitors s)))
several s before from frame k report same two p =
    let now = before ++ n.Got from frame ∷ [] in
    let round = rounds s before + 1 in
    let others = others_of k report.mon.0 in
    let all : filter (λ mon. not (mon == report.mon.0)) (monitors s) ≡ others.0 ∷ others.1 = ap (λ m. filter (λ mon. not (mon == report.mon.0)) (range_with_len 1 m)) two ∙ others.2 in
    subst (λ (xs : List ℕ). IsOrderly s (now ++ collects round (objects_of report.values) xs)) (sym all)
    (orderly_collects s now round (objects_of report.values) others.0 others.1 (let c = p.count in omega (arith, c))
    (λ mon r none.
    let is : mon ≡ report.mon.0 = not_other 1 (suc (suc k)) report.mon.0 mon r.from_one (let w = r.within in omega (arith, w, two)) (ap (λ xs. is_in xs mon) others.2 ∙ none) in
    ap (λ (q : ℕ). is_report (answer_of q now)) (is ∙ same) ∙ p.stands) p.order)

alone : (s : Setup) (before : List Noted) (from : Mon) (frame : Frame) (report : Reported) → report.mon.0 ≡ from.0 → s.monitors ≡ 1 → IsReporting s before from frame 0
    → IsOrderly s (before ++ n.Got from frame ∷ [] ++ full_end s before (rounds s before + 1 + 1) (report ∷ []))
alone s before from frame report same one p =
    let now = before ++ n.Got from frame ∷ [] in
    let decided = full_at s before (report ∷ []) in
    let own : report.mon.0 ≡ 1 = (let a = p.range.from_one in let b = p.range.within in omega (arith, a, b, one, same)) in
    subst (λ xs. IsOrderly s (now ++ (if is_within_limit decided then xs else wide_collects s (rounds s before + 1 + 1)))) (sym (assigns_got before from frame decided))
    (orderly_full_end s now (report ∷ []) decided (rounds s before + 1 + 1) 0 one
    (record { closed = p.closed; all = ap (λ q. q ∷ []) own ∙ ap (range_with_len 1) (sym one); order = p.order })
    (full_nodes s before (report ∷ [])) (let c = p.count in omega (arith, c)))

turn_full_as : (s : Setup) (before : List Noted) (from : Mon) (frame : Frame) (k : ℕ) (report : Reported) (lone : Bool) → report.mon.0 ≡ from.0 → s.monitors == 1 ≡ lone → IsReporting s before from frame k
    → IsOrderly s (before ++ n.Got from frame ∷ []
    ++ (if lone then full_end s before (rounds s before + 1 + 1) (report ∷ []) else collects (rounds s before + 1) (objects_of report.values) (filter (λ mon. not (mon == report.mon.0)) (monitors s))))
turn_full_as s before from frame zero report true same is p = alone s before from frame report same p.some p
turn_full_as s before from frame (suc k) report true same is p = absurd (let e = eqb-true s.monitors 1 is in let w = p.some in omega (arith, e, w))
turn_full_as s before from frame zero report false same is p = absurd (true≢false (sym (eq-eqb s.monitors 1 p.some) ∙ is))
turn_full_as s before from frame (suc k) report false same is p = several s before from frame k report same p.some p

turn_full : (s : Setup) (before : List Noted) (from : Mon) (frame : Frame) (k : ℕ) (report : Reported) → report.mon.0 ≡ from.0 → IsReporting s before from frame k
    → IsOrderly s (before ++ n.Got from frame ∷ [] ++ full_turn s before report)
turn_full s before from frame k report same p = turn_full_as s before from frame k report (s.monitors == 1) same refl p

-- ---- the turn of a Report

not_opened : (s : Setup) (j : List Noted) (from : Mon) (frame : Frame) (b : Bool) → is_open s (j ++ n.Got from frame ∷ []) ≡ b → is_open s j ≡ false → b ≡ false
not_opened s j from frame true is closed = absurd (true≢false (sym (open_got s j from frame is) ∙ closed))
not_opened s j from frame false is closed = refl

pub closed_got : (s : Setup) (j : List Noted) (from : Mon) (frame : Frame) → is_open s j ≡ false → is_open s (j ++ n.Got from frame ∷ []) ≡ false
closed_got s j from frame closed = not_opened s j from frame (is_open s (j ++ n.Got from frame ∷ [])) refl closed

fresh_stands : (mon : ℕ) (j : List Noted) (from : Mon) (seq : ℕ) (border : ℤ) (failed : List ℕ) (values : List (ℕ × ℤ)) → from.0 == mon ≡ true → seq == assigns_sent mon j ≡ true
    → is_report (answer_of mon (j ++ n.Got from (f.Report seq border failed values) ∷ [])) ≡ true
fresh_stands mon j from seq border failed values own fresh =
    ap is_report (got_answer mon j from (f.Report seq border failed values)
    ∙ ap (λ b. if b then (if seq == assigns_sent mon j then Some (f.Report seq border failed values) else answer_of mon j) else answer_of mon j) own
    ∙ ap (λ b. if b then Some (f.Report seq border failed values) else answer_of mon j) fresh)

pub fresh_seq : (s : Setup) (j : List Noted) (from : Mon) (seq : ℕ) (border : ℤ) (failed : List ℕ) (values : List (ℕ × ℤ)) → refusal_of s j from.0 (f.Report seq border failed values) ≡ None
    → nat_lt seq (assigns_sent from.0 j) ≡ false → seq == assigns_sent from.0 j ≡ true
fresh_seq s j from seq border failed values none late =
    elim (accepted_answer (shown_by from.0 j) seq (refusal_of_report (known_by s from.0 j) border failed values) (accepted_kind s j from.0 (f.Report seq border failed values) none).1) [
      | inl stale ↦ absurd (let l = ltb-false seq (assigns_sent from.0 j) late in omega (arith, stale, l))
      | inr fresh ↦ eq-eqb seq (assigns_sent from.0 j) fresh.now
    ]

pub reporting : (s : Setup) (before : List Noted) (from : Mon) (seq : ℕ) (border : ℤ) (failed : List ℕ) (values : List (ℕ × ℤ)) (k : ℕ)
    → s.monitors ≡ suc k → IsMonitor s from.0 → refusal_of s before from.0 (f.Report seq border failed values) ≡ None → IsOrderly s before
    → nat_lt seq (assigns_sent from.0 before) ≡ false → is_open s before ≡ false → IsReporting s before from (f.Report seq border failed values) k
reporting s before from seq border failed values k some range none o late is =
    let frame = f.Report seq border failed values in
    record {
      some = some;
      range = range;
      closed = closed_got s before from frame is;
      order = orderly_got s before from frame none o;
      count = (let a = got_round before from frame in let b = o.counted.last in omega (arith, a, b));
      stands = fresh_stands from.0 before from seq border failed values (eq-eqb from.0 from.0 refl) (fresh_seq s before from seq border failed values none late);
    }

abbrev pub kind_by : Bool → Bool → Bool → Bool → Bool → TurnKind
kind_by stale opened' passes within few =
    if stale then Stale else (if opened' then Note else (if passes then (if within then Short else Wide) else (if few then Full else Wide)))

report_turn : (s : Setup) (before : List Noted) (from : Mon) (seq : ℕ) (border : ℤ) (failed : List ℕ) (values : List (ℕ × ℤ)) (k : ℕ) (stale opened' passes within few : Bool)
    → s.monitors ≡ suc k → IsMonitor s from.0 → refusal_of s before from.0 (f.Report seq border failed values) ≡ None → IsOrderly s before
    → nat_lt seq (assigns_sent from.0 before) ≡ stale → is_open s before ≡ opened'
    → IsOrderly s (before ++ n.Got from (f.Report seq border failed values) ∷ [] ++ report_demands s before (reported from.0 border values) (kind_by stale opened' passes within few))
report_turn s before from seq border failed values k true opened' passes within few some range none o late is =
    nothing_more s (before ++ n.Got from (f.Report seq border failed values) ∷ []) (orderly_got s before from (f.Report seq border failed values) none o)
report_turn s before from seq border failed values k false true passes within few some range none o late is =
    nothing_more s (before ++ n.Got from (f.Report seq border failed values) ∷ []) (orderly_got s before from (f.Report seq border failed values) none o)
report_turn s before from seq border failed values k false false true true few some range none o late is =
    turn_short s before from (f.Report seq border failed values) k (reported from.0 border values) (reporting s before from seq border failed values k some range none o late is)
report_turn s before from seq border failed values k false false true false few some range none o late is =
    turn_wide s before from (f.Report seq border failed values) k (reporting s before from seq border failed values k some range none o late is)
report_turn s before from seq border failed values k false false false within true some range none o late is =
    turn_full s before from (f.Report seq border failed values) k (reported from.0 border values) refl (reporting s before from seq border failed values k some range none o late is)
report_turn s before from seq border failed values k false false false within false some range none o late is =
    turn_wide s before from (f.Report seq border failed values) k (reporting s before from seq border failed values k some range none o late is)

-- ---- the turn of Values

pub values_open : (s : Setup) (j : List Noted) (from : Mon) (round seq : ℕ) (border : ℤ) (values : List (ℕ × ℤ)) → IsMonitor s from.0 → refusal_of s j from.0 (f.Values round seq border values) ≡ None → is_open s j ≡ true
unfolding is_open
values_open s j from round seq border values range none =
    let awaited = accepted_values (shown_by from.0 j) (known_by s from.0 j) round seq border values (accepted_kind s j from.0 (f.Values round seq border values) none).1 in
    any_in_range (λ mon. waits_for (last_round j) mon j) 1 s.monitors from.0 range.from_one (let w = range.within in omega (arith, w)) (awaited_waits j from.0 round awaited.awaited).waits

pub values_ending : (s : Setup) (before : List Noted) (from : Mon) (round seq : ℕ) (border : ℤ) (values : List (ℕ × ℤ))
    → IsMonitor s from.0 → refusal_of s before from.0 (f.Values round seq border values) ≡ None → IsOrderly s before → is_open s (before ++ n.Got from (f.Values round seq border values) ∷ []) ≡ false
    → IsEnding s (before ++ n.Got from (f.Values round seq border values) ∷ []) (reports_at s (before ++ n.Got from (f.Values round seq border values) ∷ []))
unfolding reports_at
values_ending s before from round seq border values range none o closed =
    let frame = f.Values round seq border values in
    let now = before ++ n.Got from frame ∷ [] in
    record {
      closed = closed;
      all = all_there now 1 s.monitors (λ mon low high.
          all_reported s now closed (openers_kept s before from frame none (values_open s before from round seq border values range none) o.openers) mon (record { from_one = low; within = omega (arith, high) }));
      order = orderly_got s before from frame none o;
    }

ended_as : (s : Setup) (j : List Noted) (reports : List Reported) (k : ℕ) (wide : Bool) → s.monitors ≡ suc k → IsEnding s j reports
    → IsOrderly s (j ++ (if wide then wide_end s j reports else full_end s j (rounds s j + 1) reports))
ended_as s j reports k true some e = ending_assigns s j reports (wide_at s j reports) k some e (wide_nodes s j reports)
ended_as s j reports k false some e = orderly_full_end s j reports (full_at s j reports) (rounds s j + 1) k some e (full_nodes s j reports) (let c = e.order.counted.last in omega (arith, c))

values_turn : (s : Setup) (before : List Noted) (from : Mon) (round seq : ℕ) (border : ℤ) (values : List (ℕ × ℤ)) (k : ℕ) (still : Bool)
    → s.monitors ≡ suc k → IsMonitor s from.0 → refusal_of s before from.0 (f.Values round seq border values) ≡ None → IsOrderly s before
    → is_open s (before ++ n.Got from (f.Values round seq border values) ∷ []) ≡ still
    → IsOrderly s (before ++ n.Got from (f.Values round seq border values) ∷ [] ++ values_demand s (before ++ n.Got from (f.Values round seq border values) ∷ []) (if still then Note else End))
values_turn s before from round seq border values k true some range none o is =
    nothing_more s (before ++ n.Got from (f.Values round seq border values) ∷ []) (orderly_got s before from (f.Values round seq border values) none o)
values_turn s before from round seq border values k false some range none o is =
    let now = before ++ n.Got from (f.Values round seq border values) ∷ [] in
    ended_as s now (reports_at s now) k (is_wide s now) some (values_ending s before from round seq border values range none o is)

-- ---- every turn

pub orderly_demanded : (s : Setup) (before : List Noted) (from : Mon) (frame : Frame) (k : ℕ) → s.monitors ≡ suc k → IsMonitor s from.0 → refusal_of s before from.0 frame ≡ None → IsOrderly s before
    → IsOrderly s (before ++ n.Got from frame ∷ [] ++ demanded s before from.0 frame)
unfolding demanded kind_of
orderly_demanded s before from (f.Hello run version m) k some range none o = nothing_more s (before ++ n.Got from (f.Hello run version m) ∷ []) (orderly_got s before from (f.Hello run version m) none o)
orderly_demanded s before from (f.Report seq border failed values) k some range none o =
    let report = reported from.0 border values in
    report_turn s before from seq border failed values k (nat_lt seq (assigns_sent from.0 before)) (is_open s before) (passes_at s before report) (is_within_limit (short_at s before report)) (nat_lt (streak s before) 8)
    some range none o refl refl
orderly_demanded s before from (f.Collect round asked) k some range none o = nothing_more s (before ++ n.Got from (f.Collect round asked) ∷ []) (orderly_got s before from (f.Collect round asked) none o)
orderly_demanded s before from (f.Values round seq border values) k some range none o =
    values_turn s before from round seq border values k (is_open s (before ++ n.Got from (f.Values round seq border values) ∷ [])) some range none o refl
orderly_demanded s before from (f.Assign seq members changes) k some range none o = nothing_more s (before ++ n.Got from (f.Assign seq members changes) ∷ []) (orderly_got s before from (f.Assign seq members changes) none o)
orderly_demanded s before from (f.Settled seq last places) k some range none o = nothing_more s (before ++ n.Got from (f.Settled seq last places) ∷ []) (orderly_got s before from (f.Settled seq last places) none o)
orderly_demanded s before from f.Stop k some range none o = nothing_more s (before ++ n.Got from f.Stop ∷ []) (orderly_got s before from f.Stop none o)
