-- Every legal journal is sound: the turn of each frame, and of a retune.
use Rattle.std.proofs.Common.{◌≡◌, ℕ, suc, zero, Bool, true, false, not, ◌+◌, ◌-◌, ◌≤◌, ◌<◌, ◌==◌, ◌&&◌, ℤ, List, [], ◌∷◌, ◌++◌, map, Contains, Option, Some, None, refl, sym, ap, ◌∙◌, subst, arith, inl, inr}
use Rattle.std.specs.Prelude.{nat_lt, is_some, filter, if◌then◌else◌}
use Rattle.std.specs.List.{All, range_with_len, filter_map, cons_option}
use Rattle.std.proofs.lemmas.Bool.{eqb-true, eq-eqb, ltb-false, true≢false}
use Rattle.std.proofs.lemmas.List.{append-nil}
use Rattle.std.proofs.lemmas.List.Elements.{All-cons, All-nil}
use Rattle.std.proofs.lemmas.List.FromFn.{length-range_with_len, get_or-range_with_len}
use Rattle.std.proofs.Math.Bool.{and-false}
use Rattle.tk_base.specs.Ascending.{IsAscending}
use Rattle.tk_base.specs.Objects.{is_in}
use Rattle.tk_base.specs.Pairs.{objects_of}
use Rattle.tk_base.specs.Settings.{Setup, IsWithinLimits}
use Rattle.tk_base.specs.declared.ids.Mon.{Mon}
use Rattle.tk_border.specs.Levels.{resolution}
use Rattle.tk_border.proofs.RisingLemmas.{is_in-filter}
use Rattle.tk_rows.specs.Factors.{Grid, IsFactor}
use Rattle.tk_frames.specs.declared.frame.Frame.{Frame}
use Rattle.tk_frames.specs.declared.frame.Frame.TheVariants as f
use Rattle.tk_alloc.specs.declared.reported.Reported.{Reported}
use Rattle.tk_alloc.specs.Resolving.{CanTakePart}
use Rattle.tk_journal.specs.Laws.{IsMonitor}
use Rattle.tk_journal.specs.Readings.{monitors, assigns_sent, members_at, table_at, answer_of, last_round, asked_of, values_of, values_for, is_open, tuned_to, in_force}
use Rattle.tk_journal.specs.Deciding.{report_of, reports_at, answered_report, is_within_limit, short_decides, full_decides, passes_short_test}
use Rattle.tk_journal.specs.declared.turn.TurnKind.TheVariants.{Note, End}
use Rattle.tk_journal.specs.Turns.{reported, passes_at, short_at, full_at, wide_at, streak, kind_of, rounds, collects, wide_collects, assigns, full_end, wide_end, is_wide, report_demands, values_demand, demanded}
use Rattle.tk_journal.specs.Refusal.{refusal_of, shown_by, known_by, refusal_of_report}
use Rattle.tk_base.specs.History.{last_of}
use Rattle.tk_border.proofs.UnionLemmas.{resolution_within, resolution_ascends}
use Rattle.tk_journal.specs.declared.noted.Noted.{Noted}
use Rattle.tk_journal.specs.declared.noted.Noted.TheVariants as n
use Rattle.tk_journal.proofs.Appends.{later}
use Rattle.tk_journal.proofs.Pieces.{got_answer, got_assigns, got_round, got_asked, got_values}
use Rattle.tk_journal.proofs.Batches.{collects_round}
use Rattle.tk_journal.proofs.Same.{table_by, open_by, own_by, factor_by}
use Rattle.tk_journal.proofs.Tables.{AreSized, table_size}
use Rattle.tk_journal.proofs.Reports.{Gives, if_gives}
use Rattle.tk_journal.proofs.Accepted.{accepted_kind, accepted_answer}
use Rattle.tk_journal.proofs.Counting.{AreCounted}
use Rattle.tk_journal.proofs.Content.{all_by, report_takes_part, IsResolving, resolution_positive, resolution_holds}
use Rattle.tk_journal.proofs.Tuning.{force_limits, wide_by, force_closed, force_full}
use Rattle.tk_journal.proofs.Standing.{IsStanding, AreAgreed, standing_agreed, all_holds}
use Rattle.tk_journal.proofs.Ending.{IsFullAt, full_standing, wide_standing, short_standing, full_short, wide_short, short_short}
use Rattle.tk_journal.proofs.Sizes.{short-append, objects_few}
use Rattle.tk_journal.proofs.Orderly.{IsOrderly, IsEnding, IsReporting, assigns_got, others_of, not_other}
use Rattle.tk_journal.proofs.Turning.{reporting, values_open, values_ending, fresh_seq, kind_by}
use Rattle.tk_journal.proofs.Sound.{IsRoundOver, no_round, round_got, round_collects, new_asked}
use Rattle.tk_journal.proofs.Firm.{IsFirm, firm_got, got_tunings, got_tuned, got_agreed, open_force, firm_collects, firm_wide, firm_assigned, full_begins, wide_begins, ready_over}

-- ---- what is decided is the same right after the frame

three : {X : Type 0} (F : Setup → Grid → List ℕ → X) (s : Setup) (a b : List Noted) → AreAgreed s a b → F (in_force s b) (table_at s b) (members_at b) ≡ F (in_force s a) (table_at s a) (members_at a)
three F s a b e =
    ap (λ x. F x (table_at s b) (members_at b)) e.force ∙ ap (λ g. F (in_force s a) g (members_at b)) (table_by s a b e.assigns) ∙ ap (λ ms. F (in_force s a) (table_at s a) ms) e.members

nothing_firm : (s : Setup) (j : List Noted) → IsFirm s j → IsFirm s (j ++ [])
nothing_firm s j h = subst (IsFirm s) (sym (append-nil j)) h

-- ---- a Report

-- what stands when a fresh Report has come in while no round is open
record IsReported (s : Setup) (before : List Noted) (from : Mon) (seq : ℕ) (border : ℤ) (failed : List ℕ) (values : List (ℕ × ℤ)) (k : ℕ) : Type 0 where
  order : IsReporting s before from (f.Report seq border failed values) k
  closed : is_open s before ≡ false
  agreed : AreAgreed s before (before ++ n.Got from (f.Report seq border failed values) ∷ [])
  firm : IsFirm s (before ++ n.Got from (f.Report seq border failed values) ∷ [])
  over : IsResolving (known_by s from.0 before) border failed values
  answer : answer_of from.0 (before ++ n.Got from (f.Report seq border failed values) ∷ []) ≡ Some (f.Report seq border failed values)

-- the objects of the Report, as a round's
pub record AreRoundObjects (s : Setup) (j : List Noted) (all : List ℕ) : Type 0 where
  pub among : All (Contains all) (members_at j)
  pub within : All (λ o. o ≤ s.objects) all
  pub positive : All (λ o. 0 < o) all
  pub ascends : IsAscending all

pub report_objects : (s : Setup) (j : List Noted) (failed all : List ℕ) → IsStanding s j → all ≡ resolution s.objects (members_at j) failed → AreRoundObjects s j all
report_objects s j failed all st is = record {
  among = subst (λ xs. All (Contains xs) (members_at j)) (sym is) (resolution_holds s.objects (members_at j) failed st.chosen.ascends st.chosen.within);
  within = subst (λ xs. All (λ o. o ≤ s.objects) xs) (sym is) (resolution_within s.objects (members_at j) failed);
  positive = subst (λ xs. All (λ o. 0 < o) xs) (sym is) (resolution_positive s.objects (members_at j) failed);
  ascends = subst IsAscending (sym is) (resolution_ascends s.objects (members_at j) failed);
}

reported_objects : (s : Setup) (before : List Noted) (from : Mon) (seq : ℕ) (border : ℤ) (failed : List ℕ) (values : List (ℕ × ℤ)) (k : ℕ) → IsReported s before from seq border failed values k
    → AreRoundObjects s (before ++ n.Got from (f.Report seq border failed values) ∷ []) (objects_of values)
reported_objects s before from seq border failed values k p =
    report_objects s (before ++ n.Got from (f.Report seq border failed values) ∷ []) failed (objects_of values) p.firm.standing (p.over.objects ∙ ap (λ ms. resolution s.objects ms failed) (sym p.agreed.members))

reported_takes : (s : Setup) (before : List Noted) (from : Mon) (seq : ℕ) (border : ℤ) (failed : List ℕ) (values : List (ℕ × ℤ)) (k : ℕ) → IsReported s before from seq border failed values k
    → CanTakePart (table_at s (before ++ n.Got from (f.Report seq border failed values) ∷ [])) (members_at (before ++ n.Got from (f.Report seq border failed values) ∷ [])) (objects_of values) (reported from.0 border values)
reported_takes s before from seq border failed values k p =
    let now = before ++ n.Got from (f.Report seq border failed values) ∷ [] in
    subst (λ (g : Grid). CanTakePart g (members_at now) (objects_of values) (reported from.0 border values)) (sym (table_by s before now p.agreed.assigns))
    (subst (λ ms. CanTakePart (table_at s before) ms (objects_of values) (reported from.0 border values)) (sym p.agreed.members) p.over.takes)

turn_short : (s : Setup) (before : List Noted) (from : Mon) (seq : ℕ) (border : ℤ) (failed : List ℕ) (values : List (ℕ × ℤ)) (k : ℕ) → IsWithinLimits s → IsReported s before from seq border failed values k
    → passes_at s before (reported from.0 border values) ≡ true → is_within_limit (short_at s before (reported from.0 border values)) ≡ true
    → IsFirm s (before ++ n.Got from (f.Report seq border failed values) ∷ [] ++ assigns before (short_at s before (reported from.0 border values)))
turn_short s before from seq border failed values k limits p test within =
    let frame = f.Report seq border failed values in
    let now = before ++ n.Got from frame ∷ [] in
    let report = reported from.0 border values in
    let same : short_at s now report ≡ short_at s before report = three (λ x g ms. short_decides x g ms report) s before now p.agreed in
    let passes : passes_at s now report ≡ true = three (λ x g ms. passes_short_test x g ms report) s before now p.agreed ∙ test in
    let objs = reported_objects s before from seq border failed values k p in
    let st = short_standing s now report p.firm.standing (record {
      ready = ready_over s now (objects_of values) p.firm.standing objs.among objs.within;
      takes = reported_takes s before from seq border failed values k p;
      range = p.order.range;
    }) passes (ap is_within_limit same ∙ within) in
    let few = objects_few s.objects (objects_of values) objs.ascends objs.positive objs.within in
    let most = limits.objects in
    let sent = short_short s now report p.firm.standing (force_limits s now limits p.firm.tuned) (omega (arith, few, most)) in
    subst (λ xs. IsFirm s (now ++ xs)) (sym (assigns_got before from frame (short_at s before report)))
    (subst (λ d. IsFirm s (now ++ assigns now d)) same (firm_assigned s now (short_at s now report) p.order.closed p.firm.tuned p.firm.short sent st))

turn_wide : (s : Setup) (before : List Noted) (from : Mon) (seq : ℕ) (border : ℤ) (failed : List ℕ) (values : List (ℕ × ℤ)) (k : ℕ) → s.objects ≤ 65536 → IsReported s before from seq border failed values k
    → IsFirm s (before ++ n.Got from (f.Report seq border failed values) ∷ [] ++ wide_collects s (rounds s before + 1))
turn_wide s before from seq border failed values k few p =
    firm_wide s (before ++ n.Got from (f.Report seq border failed values) ∷ []) (rounds s before + 1) k few p.order.some p.order.closed (let c = p.order.count in omega (arith, c)) p.order.order p.firm

pub range_contains : (a k mon : ℕ) → a ≤ mon → mon < a + k → Contains (range_with_len a k) mon
range_contains a k mon low high =
    let place : mon - a < k = omega (arith, low, high) in
    (mon - a, (let l = length-range_with_len a k in omega (arith, place, l)), get_or-range_with_len a k (mon - a) mon place ∙ (let e : a + (mon - a) ≡ mon = omega (arith, low) in e))

-- a monitor is not among the others
pub no_other : (a k mon : ℕ) → is_in (filter (λ m. not (m == mon)) (range_with_len a k)) mon ≡ false
no_other a k mon =
    is_in-filter (λ m. not (m == mon)) (range_with_len a k) mon ∙ ap (λ b. is_in (range_with_len a k) mon && not b) (eq-eqb mon mon refl) ∙ and-false (is_in (range_with_len a k) mon)

-- a round that did not ask someone is not wide
unasked : (s : Setup) (j : List Noted) (round : ℕ) (asked : List ℕ) (q : ℕ) (mons : List ℕ) (mon : ℕ) → IsMonitor s mon → AreCounted s j → last_round j < round → is_in (q ∷ mons) mon ≡ false
    → is_wide s (j ++ collects round asked (q ∷ mons)) ≡ true → ⊥
unfolding is_wide
unasked s j round asked q mons mon m c new out wide =
    let after = j ++ collects round asked (q ∷ mons) in
    let here = all_holds (λ p. is_some (asked_of (last_round after) p after)) (monitors s) wide mon (range_contains 1 s.monitors mon m.from_one (let w = m.within in omega (arith, w))) in
    let none : asked_of (last_round after) mon after ≡ None =
    ap (λ r. asked_of r mon after) (collects_round j round asked q mons) ∙ new_asked s j round asked (q ∷ mons) mon c new ∙ ap (λ b. if b then Some asked else None) out in
    true≢false (sym here ∙ ap is_some none)

several : (s : Setup) (before : List Noted) (from : Mon) (seq : ℕ) (border : ℤ) (failed : List ℕ) (values : List (ℕ × ℤ)) (k : ℕ) → s.objects ≤ 65536 → s.monitors ≡ suc (suc k) → IsReported s before from seq border failed values (suc k)
    → IsFirm s (before ++ n.Got from (f.Report seq border failed values) ∷ [] ++ collects (rounds s before + 1) (objects_of values) (filter (λ mon. not (mon == from.0)) (monitors s)))
several s before from seq border failed values k few two p =
    let frame = f.Report seq border failed values in
    let now = before ++ n.Got from frame ∷ [] in
    let round = rounds s before + 1 in
    let all = objects_of values in
    let objs = reported_objects s before from seq border failed values (suc k) p in
    let others = others_of k from.0 in
    let list : filter (λ mon. not (mon == from.0)) (monitors s) ≡ others.0 ∷ others.1 = ap (λ m. filter (λ mon. not (mon == from.0)) (range_with_len 1 m)) two ∙ others.2 in
    let new : last_round now < round = (let c = p.order.count in omega (arith, c)) in
    let after = now ++ collects round all (others.0 ∷ others.1) in
    let own : is_in (others.0 ∷ others.1) from.0 ≡ false = ap (λ xs. is_in xs from.0) (sym others.2) ∙ no_other 1 (suc (suc k)) from.0 in
    let r = round_collects s now round all others.0 others.1 p.order.order.counted new objs.among objs.within objs.positive objs.ascends
    (λ mon m none.
    let is : mon ≡ from.0 = not_other 1 (suc (suc k)) from.0 mon m.from_one (let w = m.within in omega (arith, w, two)) (ap (λ xs. is_in xs mon) others.2 ∙ none) in
    subst (λ q. Gives (CanTakePart (table_at s now) (members_at now) all) (answered_report q (answer_of q now))) (sym is)
    (subst (λ x. Gives (CanTakePart (table_at s now) (members_at now) all) (answered_report from.0 x)) (sym p.answer)
    (if_gives (CanTakePart (table_at s now) (members_at now) all) true (reported from.0 border values) (reported_takes s before from seq border failed values (suc k) p))))
    (λ w. absurd (unasked s now round all others.0 others.1 from.0 p.order.range p.order.order.counted new own w)) in
    subst (λ xs. IsFirm s (now ++ collects round all xs)) (sym list) (firm_collects s now round all others.0 others.1 few p.order.closed new r p.firm)

pub one_report : (P : Reported → Type 0) (r : Reported) → P r → All P (r ∷ [])
one_report P r p = All-cons P r [] p (All-nil P)

either_firm : (s : Setup) (j : List Noted) (within : Bool) (next : ℕ) (xs : List Noted) → (within ≡ true → IsFirm s (j ++ xs)) → IsFirm s (j ++ wide_collects s next) → IsFirm s (j ++ (if within then xs else wide_collects s next))
either_firm s j true next xs a b = a refl
either_firm s j false next xs a b = b

-- the end of a full round, with its decision at the journal
full_end_firm : (s : Setup) (j : List Noted) (all : List ℕ) (reports : List Reported) (next k : ℕ) → IsWithinLimits s → s.monitors ≡ suc k → is_open s j ≡ false → last_round j < next → IsOrderly s j → IsFirm s j
    → AreRoundObjects s j all → All (CanTakePart (table_at s j) (members_at j) all) reports → map (λ (r : Reported). r.mon.0) reports ≡ range_with_len 1 s.monitors
    → IsFirm s (j ++ (if is_within_limit (full_at s j reports) then assigns j (full_at s j reports) else wide_collects s next))
full_end_firm s j all reports next k limits some closed new o h objs takes order =
    either_firm s j (is_within_limit (full_at s j reports)) next (assigns j (full_at s j reports))
    (λ within.
    let begins = full_begins s j all reports limits h.tuned h.standing objs.among objs.within objs.positive objs.ascends takes order in
    firm_assigned s j (full_at s j reports) closed h.tuned h.short (full_short s j reports begins) (full_standing s j reports limits.some_monitor begins within))
    (firm_wide s j next k limits.objects some closed new o h)

alone : (s : Setup) (before : List Noted) (from : Mon) (seq : ℕ) (border : ℤ) (failed : List ℕ) (values : List (ℕ × ℤ)) → IsWithinLimits s → s.monitors ≡ 1 → IsReported s before from seq border failed values 0
    → IsFirm s (before ++ n.Got from (f.Report seq border failed values) ∷ [] ++ full_end s before (rounds s before + 1 + 1) (reported from.0 border values ∷ []))
alone s before from seq border failed values limits one p =
    let frame = f.Report seq border failed values in
    let now = before ++ n.Got from frame ∷ [] in
    let report = reported from.0 border values in
    let next = rounds s before + 1 + 1 in
    let same : full_at s now (report ∷ []) ≡ full_at s before (report ∷ []) = three (λ x g ms. full_decides x g ms (report ∷ [])) s before now p.agreed in
    let own : from.0 ≡ 1 = (let a = p.order.range.from_one in let b = p.order.range.within in omega (arith, a, b, one)) in
    let objs = reported_objects s before from seq border failed values 0 p in
    let ended = full_end_firm s now (objects_of values) (report ∷ []) next 0 limits one p.order.closed (let c = p.order.count in omega (arith, c)) p.order.order p.firm objs
    (one_report (CanTakePart (table_at s now) (members_at now) (objects_of values)) report (reported_takes s before from seq border failed values 0 p)) (ap (λ q. q ∷ []) own ∙ ap (range_with_len 1) (sym one)) in
    subst (λ d. IsFirm s (now ++ (if is_within_limit d then assigns before d else wide_collects s next))) same
    (subst (λ xs. IsFirm s (now ++ (if is_within_limit (full_at s now (report ∷ [])) then xs else wide_collects s next))) (sym (assigns_got before from frame (full_at s now (report ∷ [])))) ended)

turn_full_as : (s : Setup) (before : List Noted) (from : Mon) (seq : ℕ) (border : ℤ) (failed : List ℕ) (values : List (ℕ × ℤ)) (k : ℕ) (lone : Bool) → IsWithinLimits s → s.monitors == 1 ≡ lone → IsReported s before from seq border failed values k
    → IsFirm s (before ++ n.Got from (f.Report seq border failed values) ∷ []
    ++ (if lone then full_end s before (rounds s before + 1 + 1) (reported from.0 border values ∷ []) else collects (rounds s before + 1) (objects_of values) (filter (λ mon. not (mon == from.0)) (monitors s))))
turn_full_as s before from seq border failed values zero true limits is p = alone s before from seq border failed values limits p.order.some p
turn_full_as s before from seq border failed values (suc k) true limits is p = absurd (let e = eqb-true s.monitors 1 is in let w = p.order.some in omega (arith, e, w))
turn_full_as s before from seq border failed values zero false limits is p = absurd (true≢false (sym (eq-eqb s.monitors 1 p.order.some) ∙ is))
turn_full_as s before from seq border failed values (suc k) false limits is p = several s before from seq border failed values k limits.objects p.order.some p

-- a choice between nothing and nothing
pub no_choice : (b : Bool) (x : Option Reported) → x ≡ None → (if b then x else None) ≡ None
no_choice true x none = none
no_choice false x none = refl

-- an answer's frame opens and ends no round
pub not_values : (s : Setup) (j : List Noted) (from : Mon) (frame : Frame) → ((r mon : ℕ) → values_for r mon frame ≡ None) → is_open s (j ++ n.Got from frame ∷ []) ≡ is_open s j
not_values s j from frame none =
    open_by s j (j ++ n.Got from frame ∷ []) (got_round j from frame) (λ r mon. got_asked r mon j from frame)
    (λ r mon. got_values r mon j from frame ∙ ap (later (values_of r mon j)) (no_choice (from.0 == mon) (values_for r mon frame) (none r mon)))

fresh_answer : (j : List Noted) (from : Mon) (seq : ℕ) (border : ℤ) (failed : List ℕ) (values : List (ℕ × ℤ)) → seq == assigns_sent from.0 j ≡ true
    → answer_of from.0 (j ++ n.Got from (f.Report seq border failed values) ∷ []) ≡ Some (f.Report seq border failed values)
fresh_answer j from seq border failed values fresh =
    got_answer from.0 j from (f.Report seq border failed values)
    ∙ ap (λ b. if b then (if seq == assigns_sent from.0 j then Some (f.Report seq border failed values) else answer_of from.0 j) else answer_of from.0 j) (eq-eqb from.0 from.0 refl)
    ∙ ap (λ b. if b then Some (f.Report seq border failed values) else answer_of from.0 j) fresh

pub fresh_content : (s : Setup) (j : List Noted) (from : Mon) (seq : ℕ) (border : ℤ) (failed : List ℕ) (values : List (ℕ × ℤ)) → refusal_of s j from.0 (f.Report seq border failed values) ≡ None
    → nat_lt seq (assigns_sent from.0 j) ≡ false → refusal_of_report (known_by s from.0 j) border failed values ≡ None
fresh_content s j from seq border failed values none late =
    elim (accepted_answer (shown_by from.0 j) seq (refusal_of_report (known_by s from.0 j) border failed values) (accepted_kind s j from.0 (f.Report seq border failed values) none).1) [
      | inl stale ↦ absurd (let l = ltb-false seq (assigns_sent from.0 j) late in omega (arith, stale, l))
      | inr fresh ↦ fresh.passes
    ]

reported_now : (s : Setup) (before : List Noted) (from : Mon) (seq : ℕ) (border : ℤ) (failed : List ℕ) (values : List (ℕ × ℤ)) (k : ℕ) → s.monitors ≡ suc k → IsMonitor s from.0
    → refusal_of s before from.0 (f.Report seq border failed values) ≡ None → IsOrderly s before → IsFirm s before → nat_lt seq (assigns_sent from.0 before) ≡ false → is_open s before ≡ false
    → IsReported s before from seq border failed values k
reported_now s before from seq border failed values k some range none o h late closed =
    let frame = f.Report seq border failed values in
    let same = not_values s before from frame (λ r mon. refl) in
    let fresh = fresh_seq s before from seq border failed values none late in
    record {
      order = reporting s before from seq border failed values k some range none o late closed;
      closed = closed;
      agreed = got_agreed s before from frame (open_force s before from frame same);
      firm = firm_got s before from frame range none same o h;
      over = report_takes_part (known_by s from.0 before) border failed values range.from_one (let w = range.within in let t = table_size s before in omega (arith, w, t))
          (fresh_content s before from seq border failed values none late);
      answer = fresh_answer before from seq border failed values fresh;
    }

report_turn : (s : Setup) (before : List Noted) (from : Mon) (seq : ℕ) (border : ℤ) (failed : List ℕ) (values : List (ℕ × ℤ)) (k : ℕ) (stale opened' passes within few : Bool)
    → IsWithinLimits s → s.monitors ≡ suc k → IsMonitor s from.0 → refusal_of s before from.0 (f.Report seq border failed values) ≡ None → IsOrderly s before → IsFirm s before
    → nat_lt seq (assigns_sent from.0 before) ≡ stale → is_open s before ≡ opened' → passes_at s before (reported from.0 border values) ≡ passes → is_within_limit (short_at s before (reported from.0 border values)) ≡ within
    → IsFirm s (before ++ n.Got from (f.Report seq border failed values) ∷ [] ++ report_demands s before (reported from.0 border values) (kind_by stale opened' passes within few))
report_turn s before from seq border failed values k true opened' passes within few limits some range none o h late is test fits =
    nothing_firm s (before ++ n.Got from (f.Report seq border failed values) ∷ []) (firm_got s before from (f.Report seq border failed values) range none (not_values s before from (f.Report seq border failed values) (λ r mon. refl)) o h)
report_turn s before from seq border failed values k false true passes within few limits some range none o h late is test fits =
    nothing_firm s (before ++ n.Got from (f.Report seq border failed values) ∷ []) (firm_got s before from (f.Report seq border failed values) range none (not_values s before from (f.Report seq border failed values) (λ r mon. refl)) o h)
report_turn s before from seq border failed values k false false true true few limits some range none o h late is test fits =
    turn_short s before from seq border failed values k limits (reported_now s before from seq border failed values k some range none o h late is) test fits
report_turn s before from seq border failed values k false false true false few limits some range none o h late is test fits =
    turn_wide s before from seq border failed values k limits.objects (reported_now s before from seq border failed values k some range none o h late is)
report_turn s before from seq border failed values k false false false within true limits some range none o h late is test fits =
    turn_full_as s before from seq border failed values k (s.monitors == 1) limits refl (reported_now s before from seq border failed values k some range none o h late is)
report_turn s before from seq border failed values k false false false within false limits some range none o h late is test fits =
    turn_wide s before from seq border failed values k limits.objects (reported_now s before from seq border failed values k some range none o h late is)

-- ---- Values

found_in : (P : Reported → Type 0) (o : Option Reported) (rs : List Reported) (r : Reported) → Gives P o → ((x : Reported) → Contains rs x → P x) → Contains (cons_option o rs) r → P r
found_in P None rs r here rest in' = rest r in'
found_in P (Some x) rs r here rest (zero, below, is) = subst P is (here x refl)
found_in P (Some x) rs r here rest (suc i, below, is) = rest r (i, omega (arith, below), is)

found_gives : (P : Reported → Type 0) (h : ℕ → Option Reported) (a k : ℕ) → ((mon : ℕ) → a ≤ mon → mon < a + k → Gives P (h mon)) → (r : Reported) → Contains (filter_map h (range_with_len a k)) r → P r
found_gives P h a zero each r (i, below, is) = absurd (omega (arith, below))
found_gives P h a (suc k) each r in' =
    found_in P (h a) (filter_map h (range_with_len (a + 1) k)) r (each a (omega arith) (omega arith)) (found_gives P h (a + 1) k (λ mon low high. each mon (omega (arith, low)) (omega (arith, high)))) in'

-- what is told to a round can take part in it
reports_take : (s : Setup) (j : List Noted) (P : Reported → Type 0) → ((mon : ℕ) → IsMonitor s mon → Gives P (report_of mon j)) → All P (reports_at s j)
unfolding reports_at
reports_take s j P each = all_by P (filter_map (λ mon. report_of mon j) (monitors s)) (λ r in'. found_gives P (λ mon. report_of mon j) 1 s.monitors (λ mon low high. each mon (record { from_one = low; within = omega (arith, high) })) r in')

pub got_sizes : (s : Setup) (j : List Noted) (from : Mon) (frame : Frame) → AreSized s j → AreSized s (j ++ n.Got from frame ∷ [])
got_sizes s j from frame z = record {
  own = λ o r. subst IsFactor (sym (own_by s j (j ++ n.Got from frame ∷ []) (λ mon. got_assigns mon j from frame) o)) (z.own o r);
  each = λ o mon r m. subst IsFactor (sym (factor_by j (j ++ n.Got from frame ∷ []) (λ q. got_assigns q j from frame) mon o)) (z.each o mon r m);
}

pub takes_at_end : (s : Setup) (before : List Noted) (from : Mon) (frame : Frame) (all : List ℕ) (reports : List Reported) → reports ≡ reports_at s (before ++ n.Got from frame ∷ []) → IsRoundOver s (before ++ n.Got from frame ∷ []) all
    → All (CanTakePart (table_at s (before ++ n.Got from frame ∷ [])) (members_at (before ++ n.Got from frame ∷ [])) all) reports
takes_at_end s before from frame all reports is r =
    let now = before ++ n.Got from frame ∷ [] in
    subst (λ rs. All (CanTakePart (table_at s now) (members_at now) all) rs) (sym is) (reports_take s now (CanTakePart (table_at s now) (members_at now) all) r.good)

-- a full round that ends was opened by no retune, so k and epsilon stay
firm_at_end : (s : Setup) (before : List Noted) (from : Mon) (frame : Frame) → IsMonitor s from.0 → refusal_of s before from.0 frame ≡ None → IsOrderly s before → IsFirm s before
    → is_open s (before ++ n.Got from frame ∷ []) ≡ false → is_open s before ≡ true → is_wide s (before ++ n.Got from frame ∷ []) ≡ false → IsFirm s (before ++ n.Got from frame ∷ [])
firm_at_end s before from frame range none o h closed opened wide =
    let now = before ++ n.Got from frame ∷ [] in
    let tuned = got_tuned s before from frame h.tuned in
    let full : is_wide s before ≡ false = sym (wide_by s before now (got_round before from frame) (λ q mon. got_asked q mon before from frame)) ∙ wide in
    let force : in_force s now ≡ in_force s before =
    force_closed s now closed tuned ∙ ap (λ ts. tuned_to s (last_of ts)) (got_tunings before from frame) ∙ sym (force_full s before full h.tuned) in
    record { tuned = tuned; standing = standing_agreed s before now (got_agreed s before from frame force) h.standing; round = no_round s now closed; short = short-append before (n.Got from frame ∷ []) h.short tt }

-- what the end of a full round begins with
pub full_at_end : (s : Setup) (before : List Noted) (from : Mon) (frame : Frame) → IsWithinLimits s → IsMonitor s from.0 → refusal_of s before from.0 frame ≡ None → IsOrderly s before → IsFirm s before
    → is_open s (before ++ n.Got from frame ∷ []) ≡ false → is_open s before ≡ true → is_wide s (before ++ n.Got from frame ∷ []) ≡ false
    → (reports : List Reported) → reports ≡ reports_at s (before ++ n.Got from frame ∷ []) → IsEnding s (before ++ n.Got from frame ∷ []) reports → IsFullAt s (before ++ n.Got from frame ∷ []) reports
full_at_end s before from frame limits range none o h closed opened wide reports is ending =
    let now = before ++ n.Got from frame ∷ [] in
    let had = h.round opened in
    let r = round_got s before had.0 from frame range none opened o.openers had.1 in
    let firm = firm_at_end s before from frame range none o h closed opened wide in
    full_begins s now had.0 reports limits firm.tuned firm.standing r.among r.within r.positive r.ascends (takes_at_end s before from frame had.0 reports is r) ending.all

-- the end of a round, full or wide
ended_as : (s : Setup) (before : List Noted) (from : Mon) (frame : Frame) (k : ℕ) (wide : Bool) → IsWithinLimits s → s.monitors ≡ suc k → IsMonitor s from.0 → refusal_of s before from.0 frame ≡ None → IsOrderly s before → IsFirm s before
    → is_open s (before ++ n.Got from frame ∷ []) ≡ false → is_open s before ≡ true → is_wide s (before ++ n.Got from frame ∷ []) ≡ wide
    → (reports : List Reported) → reports ≡ reports_at s (before ++ n.Got from frame ∷ []) → IsEnding s (before ++ n.Got from frame ∷ []) reports
    → IsFirm s (before ++ n.Got from frame ∷ [] ++ (if wide then wide_end s (before ++ n.Got from frame ∷ []) reports else full_end s (before ++ n.Got from frame ∷ []) (rounds s (before ++ n.Got from frame ∷ []) + 1) reports))
ended_as s before from frame k true limits some range none o h closed opened wide reports is ending =
    let now = before ++ n.Got from frame ∷ [] in
    let had = h.round opened in
    let r = round_got s before had.0 from frame range none opened o.openers had.1 in
    let takes : All (CanTakePart (table_at s now) (members_at now) had.0) reports =
    subst (λ rs. All (CanTakePart (table_at s now) (members_at now) had.0) rs) (sym is) (reports_take s now (CanTakePart (table_at s now) (members_at now) had.0) r.good) in
    let tuned = got_tuned s before from frame h.tuned in
    let begins = wide_begins s now reports limits tuned (got_sizes s before from frame h.standing.sizes) (subst (λ xs. All (CanTakePart (table_at s now) (members_at now) xs) reports) (r.wide wide) takes) ending.all in
    firm_assigned s now (wide_at s now reports) closed tuned (short-append before (n.Got from frame ∷ []) h.short tt) (wide_short s now reports begins) (wide_standing s now reports limits begins)
ended_as s before from frame k false limits some range none o h closed opened wide reports is ending =
    let now = before ++ n.Got from frame ∷ [] in
    let had = h.round opened in
    let r = round_got s before had.0 from frame range none opened o.openers had.1 in
    let firm = firm_at_end s before from frame range none o h closed opened wide in
    full_end_firm s now had.0 reports (rounds s now + 1) k limits some closed (let l = ending.order.counted.last in omega (arith, l)) ending.order firm
    (record { among = r.among; within = r.within; positive = r.positive; ascends = r.ascends }) (takes_at_end s before from frame had.0 reports is r) ending.all

values_turn : (s : Setup) (before : List Noted) (from : Mon) (round seq : ℕ) (border : ℤ) (values : List (ℕ × ℤ)) (k : ℕ) (still : Bool)
    → IsWithinLimits s → s.monitors ≡ suc k → IsMonitor s from.0 → refusal_of s before from.0 (f.Values round seq border values) ≡ None → IsOrderly s before → IsFirm s before
    → is_open s (before ++ n.Got from (f.Values round seq border values) ∷ []) ≡ still
    → IsFirm s (before ++ n.Got from (f.Values round seq border values) ∷ [] ++ values_demand s (before ++ n.Got from (f.Values round seq border values) ∷ []) (if still then Note else End))
values_turn s before from round seq border values k true limits some range none o h is =
    let frame = f.Values round seq border values in
    nothing_firm s (before ++ n.Got from frame ∷ []) (firm_got s before from frame range none (is ∙ sym (values_open s before from round seq border values range none)) o h)
values_turn s before from round seq border values k false limits some range none o h is =
    let frame = f.Values round seq border values in
    let now = before ++ n.Got from frame ∷ [] in
    let ending = values_ending s before from round seq border values range none o is in
    ended_as s before from frame k (is_wide s now) limits some range none o h is (values_open s before from round seq border values range none) refl (reports_at s now) refl ending

-- ---- every frame

pub firm_demanded : (s : Setup) (before : List Noted) (from : Mon) (frame : Frame) (k : ℕ) → IsWithinLimits s → s.monitors ≡ suc k → IsMonitor s from.0 → refusal_of s before from.0 frame ≡ None → IsOrderly s before → IsFirm s before
    → IsFirm s (before ++ n.Got from frame ∷ [] ++ demanded s before from.0 frame)
unfolding demanded kind_of
firm_demanded s before from (f.Hello run version m) k limits some range none o h = nothing_firm s (before ++ n.Got from (f.Hello run version m) ∷ []) (firm_got s before from (f.Hello run version m) range none (not_values s before from (f.Hello run version m) (λ r mon. refl)) o h)
firm_demanded s before from (f.Report seq border failed values) k limits some range none o h =
    let report = reported from.0 border values in
    report_turn s before from seq border failed values k (nat_lt seq (assigns_sent from.0 before)) (is_open s before) (passes_at s before report) (is_within_limit (short_at s before report)) (nat_lt (streak s before) 8)
    limits some range none o h refl refl refl refl
firm_demanded s before from (f.Collect round asked) k limits some range none o h = nothing_firm s (before ++ n.Got from (f.Collect round asked) ∷ []) (firm_got s before from (f.Collect round asked) range none (not_values s before from (f.Collect round asked) (λ r mon. refl)) o h)
firm_demanded s before from (f.Values round seq border values) k limits some range none o h =
    values_turn s before from round seq border values k (is_open s (before ++ n.Got from (f.Values round seq border values) ∷ [])) limits some range none o h refl
firm_demanded s before from (f.Assign seq members changes) k limits some range none o h = nothing_firm s (before ++ n.Got from (f.Assign seq members changes) ∷ []) (firm_got s before from (f.Assign seq members changes) range none (not_values s before from (f.Assign seq members changes) (λ r mon. refl)) o h)
firm_demanded s before from (f.Settled seq last places) k limits some range none o h = nothing_firm s (before ++ n.Got from (f.Settled seq last places) ∷ []) (firm_got s before from (f.Settled seq last places) range none (not_values s before from (f.Settled seq last places) (λ r mon. refl)) o h)
firm_demanded s before from f.Stop k limits some range none o h = nothing_firm s (before ++ n.Got from f.Stop ∷ []) (firm_got s before from f.Stop range none (not_values s before from f.Stop (λ r mon. refl)) o h)
