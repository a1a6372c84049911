-- Each turn says what may be said, so every legal journal does.
use Rattle.tk_frames.specs.declared.frame.Frame.TheVariants as f
use Rattle.tk_journal.specs.declared.noted.Noted.TheVariants as n
use Rattle.std.proofs.Common.{◌≡◌, ℕ, suc, ◌+◌, ◌^◌, ◌≤◌, ◌<◌, ◌==◌, ℤ, pos, Bool, true, not, List, [], ◌∷◌, ◌++◌, length, map, Contains, None, refl, sym, ap, ◌∙◌, subst, arith, append_assoc}
use Rattle.std.specs.Prelude.{filter, unsigned_abs}
use Rattle.std.specs.List.{All, list_all, enumerate_from}
use Rattle.std.proofs.lemmas.Bool.{and_parts, le-ltb}
use Rattle.tk_base.specs.History.{EachFrom}
use Rattle.tk_base.proofs.HistoryLemmas.{each_join}
use Rattle.tk_base.specs.Objects.{objects, is_in}
use Rattle.tk_base.specs.Pairs.{objects_of}
use Rattle.tk_base.specs.Settings.{Setup, IsWithinLimits}
use Rattle.tk_base.specs.declared.ids.Mon.{Mon}
use Rattle.tk_base.proofs.MemberLemmas.{contained_is_in, is_in_contained, objects_within}
use Rattle.tk_rows.specs.Factors.{IsFactor}
use Rattle.tk_border.proofs.RisingLemmas.{is_in-filter}
use Rattle.tk_frames.specs.Assigns.{members_of}
use Rattle.tk_frames.specs.declared.frame.Frame.{Frame}
use Rattle.tk_alloc.specs.Parts.{monitor}
use Rattle.tk_alloc.specs.Resolving.{CanTakePart, round_parts, objects_over}
use Rattle.tk_alloc.specs.Rounds.{chosen, wide_parts}
use Rattle.tk_alloc.specs.declared.reported.Reported.{Reported}
use Rattle.tk_alloc.proofs.RoundLemmas.{bordered}
use Rattle.tk_alloc.proofs.WideLemmas.{leeway_size, slight_at}
use Rattle.tk_journal.specs.Deciding.{full_decides, is_within_limit, reports_at, short_decides, wide_decides}
use Rattle.tk_journal.specs.Laws.{IsMonitor, IsSetUp}
use Rattle.tk_journal.specs.Legal.{IsAccepted, IsLegal, Opening, opened, turn_of}
use Rattle.tk_journal.specs.Publishing.{closing}
use Rattle.tk_journal.specs.Readings.{assigns_sent, in_force, members_at, monitors, table_at}
use Rattle.tk_journal.specs.Refusal.{known_by, refusal_of}
use Rattle.tk_journal.specs.Turns.{assigns, demanded, full_at, is_wide, reported, rounds, short_at, wide_at, wide_collects}
use Rattle.tk_journal.specs.declared.noted.Noted.{Noted}
use Rattle.tk_journal.proofs.Appends.{assigns_sent-append, members_at-append}
use Rattle.tk_journal.proofs.Content.{report_takes_part}
use Rattle.tk_journal.proofs.Ending.{IsWideAt, wide_ascends}
use Rattle.tk_journal.proofs.Firm.{IsFirm, got_tuned, wide_begins}
use Rattle.tk_journal.proofs.FirmTurns.{AreRoundObjects, firm_demanded, fresh_content, full_at_end, report_objects, takes_at_end, got_sizes}
use Rattle.tk_journal.proofs.LawLemmas.{one_less, orderly}
use Rattle.tk_journal.proofs.LegalLemmas.{tuned_assigns}
use Rattle.tk_journal.proofs.Orderly.{IsOrderly, Row, assigns_got}
use Rattle.tk_journal.proofs.Pieces.{got_assigns, got_members}
use Rattle.tk_journal.proofs.Sound.{round_got}
use Rattle.tk_journal.proofs.SoundLemmas.{legal_firm}
use Rattle.tk_journal.proofs.Standing.{bounded_small, is_small}
use Rattle.tk_journal.proofs.Tables.{table_size}
use Rattle.tk_journal.proofs.Tuning.{force_objects}
use Rattle.tk_journal.proofs.Turning.{orderly_demanded}
use Rattle.tk_journal.specs.Shapes.{IsFreshReport, IsLastValues, Shape}
use Rattle.tk_journal.specs.Shapes.Shape.{Plain, Short, Wide, Full, LoneEnd, LoneWide, EndFull, EndOver, EndWide}
use Rattle.tk_journal.proofs.GrowLemmas.{with_got, ending_of}
use Rattle.tk_journal.proofs.HeardLemmas.{first_sent}
use Rattle.tk_journal.proofs.ShapeLemmas.{shape}
use Rattle.tk_journal.specs.Sending.{IsSaidWell}
use Rattle.tk_journal.proofs.SendLemmas.{CanAsk, all_among, asks_well, batch_well, can_ask, closing_well, listed_monitor, rest_all, sent_well}
use Rattle.tk_journal.proofs.WholeLemmas.{by_turns}

abbrev pub AreBegun : Setup → List Noted → Type 0
AreBegun s j = (mon : ℕ) → IsMonitor s mon → 0 < assigns_sent mon j

begun_more : (s : Setup) (a b : List Noted) → AreBegun s a → AreBegun s (a ++ b)
begun_more s a b h mon m = let x = h mon m in let e = assigns_sent-append mon a b in omega (arith, x, e)

ask_got : (s : Setup) (before : List Noted) (from : Mon) (frame : Frame) (asked : List ℕ) → CanAsk s before asked → CanAsk s (with_got before from frame) asked
unfolding assigns_sent
ask_got s before from frame asked h = record {
  begun = λ mon r. (let b = h.begun mon r in let e = ap length (got_assigns mon before from frame) in omega (arith, b, e));
  named = λ mon r. ap members_of (got_assigns mon before from frame) ∙ h.named mon r ∙ sym (got_members before from frame);
  some = h.some;
  ascends = h.ascends;
  within = h.within;
  among = subst (λ ms. All (Contains asked) ms) (sym (got_members before from frame)) h.among;
}

ask_tuned : (s : Setup) (before : List Noted) (k : ℕ) (epsilon : ℤ) (asked : List ℕ) → CanAsk s before asked → CanAsk s (before ++ n.Tuned k epsilon ∷ []) asked
unfolding assigns_sent
ask_tuned s before k epsilon asked h = record {
  begun = λ mon r. (let b = h.begun mon r in let e = ap length (tuned_assigns mon before k epsilon) in omega (arith, b, e));
  named = λ mon r. ap members_of (tuned_assigns mon before k epsilon) ∙ h.named mon r ∙ sym (members_at-append before (n.Tuned k epsilon ∷ []));
  some = h.some;
  ascends = h.ascends;
  within = h.within;
  among = subst (λ ms. All (Contains asked) ms) (sym (members_at-append before (n.Tuned k epsilon ∷ []))) h.among;
}

-- ---- what is known at a beginning of a turn

record IsBegun (s : Setup) (before : List Noted) (from : Mon) (frame : Frame) : Type 0 where
  limits : IsWithinLimits s
  range : IsMonitor s from.0
  none : refusal_of s before from.0 frame ≡ None
  order : IsOrderly s before
  firm : IsFirm s before
  begun : AreBegun s before

report_over : (s : Setup) (before : List Noted) (from : Mon) (frame : Frame) (border : ℤ) (failed : List ℕ) (values : List (ℕ × ℤ)) → IsBegun s before from frame → IsFreshReport s before from frame border failed values → AreRoundObjects s before (objects_of values)
report_over s before from frame border failed values h r =
    let seq = assigns_sent from.0 before in
    let none : refusal_of s before from.0 (f.Report seq border failed values) ≡ None = subst (λ (g : Frame). refusal_of s before from.0 g ≡ None) r.is h.none in
    let content = fresh_content s before from seq border failed values none (le-ltb seq seq (omega arith)) in
    let over = report_takes_part (known_by s from.0 before) border failed values h.range.from_one (let w = h.range.within in let t = table_size s before in omega (arith, w, t)) content in
    report_objects s before failed (objects_of values) h.firm.standing over.objects

kept_is : (p : ℕ → Bool) (xs : List ℕ) (q : ℕ) → Contains (filter p xs) q → Contains xs q
kept_is p xs q in' = is_in_contained xs q (and_parts (is_in xs q) (p q) (sym (is_in-filter p xs q) ∙ contained_is_in (filter p xs) q in')).0

ask_wide : (s : Setup) (before : List Noted) (from : Mon) (frame : Frame) (round : ℕ) → IsBegun s before from frame → EachFrom (IsSaidWell s) (with_got before from frame) (wide_collects s round)
ask_wide s before from frame round h =
    asks_well s (with_got before from frame) round (objects s.objects) (monitors s) (λ q in'. listed_monitor s q in')
    (ask_got s before from frame (objects s.objects) (can_ask s before (objects s.objects) h.limits h.order h.firm h.begun (wide_ascends s.objects) (objects_within s.objects) (all_among s before h.firm.standing)))

-- ---- Assigns by what was decided

short_well : (s : Setup) (before now : List Noted) (report : Reported) → IsWithinLimits s → IsFirm s (now ++ assigns now (short_at s before report)) → All (λ o. o ≤ s.objects) (objects_of report.values)
    → is_within_limit (short_at s before report) ≡ true → EachFrom (IsSaidWell s) now (assigns now (short_at s before report))
unfolding short_decides
short_well s before now report limits firm within fits =
    let setup = in_force s before in
    let grid = table_at s before in
    let present = members_at before in
    let all = objects_of report.values in
    let parts = round_parts setup grid present present all (report ∷ []) in
    sent_well s now present grid parts all (monitor report.border report ∷ []) limits firm within
    (rest_all (λ (d : Row). list_all is_small d.1) (short_at s before report).dealt fits)

full_well : (s : Setup) (before now : List Noted) (reports : List Reported) → IsWithinLimits s → IsFirm s (now ++ assigns now (full_at s before reports)) → All (λ o. o ≤ s.objects) (objects_over reports)
    → is_within_limit (full_at s before reports) ≡ true → EachFrom (IsSaidWell s) now (assigns now (full_at s before reports))
unfolding full_decides
full_well s before now reports limits firm within fits =
    let setup = in_force s before in
    let grid = table_at s before in
    let present = members_at before in
    let all = objects_over reports in
    let members = chosen setup present reports all in
    let parts = round_parts setup grid present members all reports in
    sent_well s now members grid parts all (bordered reports) limits firm within
    (rest_all (λ (d : Row). list_all is_small d.1) (full_at s before reports).dealt fits)

wide_well : (s : Setup) (now : List Noted) (reports : List Reported) → IsWithinLimits s → IsWideAt s now reports → IsFirm s (now ++ assigns now (wide_at s now reports)) → EachFrom (IsSaidWell s) now (assigns now (wide_at s now reports))
unfolding wide_decides
wide_well s now reports limits c firm =
    let setup = in_force s now in
    let grid = table_at s now in
    let present = members_at now in
    let all = objects setup.objects in
    let members = chosen setup present reports all in
    let parts = wide_parts setup members reports in
    let factor_of : (z : ℤ) → unsigned_abs z < 2 ^ 108 → IsFactor z = λ z h. omega (arith, h) in
    sent_well s now members grid parts all (map (monitor (pos 0)) reports) limits firm
    (subst (λ q. All (λ o. o ≤ q) all) (force_objects s now) (objects_within setup.objects))
    (bounded_small grid parts all 1 (map (monitor (pos 0)) reports) (slight_at IsFactor factor_of grid parts all 1 reports c.called.reported.values (λ o in'. leeway_size setup grid present reports o c.called in')))

-- ---- the last Values

wide_ends : (s : Setup) (before : List Noted) (from : Mon) (frame : Frame) → IsBegun s before from frame → IsLastValues s before from frame → is_wide s (with_got before from frame) ≡ true → IsWideAt s (with_got before from frame) (reports_at s (with_got before from frame))
wide_ends s before from frame h v wide =
    let now = with_got before from frame in
    let had = h.firm.round v.opened in
    let r = round_got s before had.0 from frame h.range h.none v.opened h.order.openers had.1 in
    let takes = takes_at_end s before from frame had.0 (reports_at s now) refl r in
    wide_begins s now (reports_at s now) h.limits (got_tuned s before from frame h.firm.tuned) (got_sizes s before from frame h.firm.standing.sizes)
    (subst (λ xs. All (CanTakePart (table_at s now) (members_at now) xs) (reports_at s now)) (r.wide wide) takes) (ending_of s before from frame h.range h.none h.order v).all

-- ---- each shape

abbrev Well : Setup → List Noted → List Noted → Type 0
Well s now demands = EachFrom (IsSaidWell s) now demands

demands_well : (s : Setup) (before : List Noted) (from : Mon) (frame : Frame) (demands : List Noted) → IsBegun s before from frame → Shape s before from frame demands → IsFirm s (with_got before from frame ++ demands) → Well s (with_got before from frame) demands
demands_well s before from frame demands h (Plain e fails same resting) firm = subst (Well s (with_got before from frame)) (sym e) tt
demands_well s before from frame demands h (Short border failed values r passes within e) firm =
    let now = with_got before from frame in
    let is = e ∙ assigns_got before from frame (short_at s before (reported from.0 border values)) in
    subst (Well s now) (sym is) (short_well s before now (reported from.0 border values) h.limits (subst (λ xs. IsFirm s (now ++ xs)) is firm) (report_over s before from frame border failed values h r).within within)
demands_well s before from frame demands h (Wide border failed values r e) firm = subst (Well s (with_got before from frame)) (sym e) (ask_wide s before from frame (rounds s before + 1) h)
demands_well s before from frame demands h (Full border failed values r fails few lone e) firm =
    let over = report_over s before from frame border failed values h r in
    subst (Well s (with_got before from frame)) (sym e)
    (asks_well s (with_got before from frame) (rounds s before + 1) (objects_of values) (filter (λ mon. not (mon == from.0)) (monitors s)) (λ q in'. listed_monitor s q (kept_is (λ mon. not (mon == from.0)) (monitors s) q in'))
    (ask_got s before from frame (objects_of values) (can_ask s before (objects_of values) h.limits h.order h.firm h.begun over.ascends over.within over.among)))
demands_well s before from frame demands h (LoneEnd border failed values r fails few lone within e) firm =
    let now = with_got before from frame in
    let report = reported from.0 border values in
    let is = e ∙ assigns_got before from frame (full_at s before (report ∷ [])) in
    subst (Well s now) (sym is) (full_well s before now (report ∷ []) h.limits (subst (λ xs. IsFirm s (now ++ xs)) is firm) (report_over s before from frame border failed values h r).within within)
demands_well s before from frame demands h (LoneWide border failed values r fails few lone e) firm = subst (Well s (with_got before from frame)) (sym e) (ask_wide s before from frame (rounds s before + 1 + 1) h)
demands_well s before from frame demands h (EndFull v full within e) firm =
    let now = with_got before from frame in
    let begins = full_at_end s before from frame h.limits h.range h.none h.order h.firm v.closed v.opened full (reports_at s now) refl (ending_of s before from frame h.range h.none h.order v) in
    subst (Well s now) (sym e) (full_well s now now (reports_at s now) h.limits (subst (λ xs. IsFirm s (now ++ xs)) e firm) begins.within within)
demands_well s before from frame demands h (EndOver v full e) firm = subst (Well s (with_got before from frame)) (sym e) (ask_wide s before from frame (rounds s (with_got before from frame) + 1) h)
demands_well s before from frame demands h (EndWide v wide e) firm =
    let now = with_got before from frame in
    subst (Well s now) (sym e) (wide_well s now (reports_at s now) h.limits (wide_ends s before from frame h v wide) (subst (λ xs. IsFirm s (now ++ xs)) e firm))

-- ---- each turn

pub record IsWell (s : Setup) (j : List Noted) : Type 0 where
  pub each : EachFrom (IsSaidWell s) [] j
  pub begun : AreBegun s j

turn_well : (o : Opening) (k : ℕ) → o.settings.monitors ≡ suc k → IsSetUp o → (before : List Noted) (input : Noted) → IsAccepted o.settings before input → IsLegal o before → IsWell o.settings before → IsWell o.settings (before ++ turn_of o.settings before input)
unfolding turn_of
turn_well o k some set before (n.Got from frame) accepted legal h =
    let s = o.settings in
    let range : IsMonitor s from.0 = record { from_one = accepted.0; within = accepted.1 } in
    let order = orderly o before set legal in
    let firm = legal_firm o before set legal in
    let now = with_got before from frame in
    let demands = demanded s before from.0 frame in
    let after = now ++ demands in
    let turn = n.Got from frame ∷ demands in
    let firm_after = firm_demanded s before from frame k set.limits some range accepted.2 order firm in
    let order_after = orderly_demanded s before from frame k some range accepted.2 order in
    let begun : IsBegun s before from frame = record { limits = set.limits; range = range; none = accepted.2; order = order; firm = firm; begun = h.begun } in
    let each_now : EachFrom (IsSaidWell s) [] now = each_join (IsSaidWell s) [] before (n.Got from frame ∷ []) h.each (tt, tt) in
    let each_after : EachFrom (IsSaidWell s) [] after = each_join (IsSaidWell s) [] now demands each_now (demands_well s before from frame demands begun (shape s before from frame range accepted.2) firm_after) in
    let each_all : EachFrom (IsSaidWell s) [] (after ++ closing s after) = each_join (IsSaidWell s) [] after (closing s after) each_after (closing_well s after order_after firm_after) in
    let whole : after ≡ before ++ turn = append_assoc before (n.Got from frame ∷ []) demands in
    record {
      each = subst (λ xs. EachFrom (IsSaidWell s) [] xs) (append_assoc before turn (closing s (before ++ turn))) (subst (λ xs. EachFrom (IsSaidWell s) [] (xs ++ closing s xs)) whole each_all);
      begun = begun_more s before (turn ++ closing s (before ++ turn)) h.begun;
    }
turn_well o k some set before (n.Tuned q epsilon) accepted legal h =
    let s = o.settings in
    let order = orderly o before set legal in
    let firm = legal_firm o before set legal in
    let all = objects s.objects in
    let can = can_ask s before all set.limits order firm h.begun (wide_ascends s.objects) (objects_within s.objects) (all_among s before firm.standing) in
    record {
      each = each_join (IsSaidWell s) [] before (n.Tuned q epsilon ∷ wide_collects s (rounds s before + 1)) h.each
          (tt, asks_well s (before ++ n.Tuned q epsilon ∷ []) (rounds s before + 1) all (monitors s) (λ m in'. listed_monitor s m in') (ask_tuned s before q epsilon all can));
      begun = begun_more s before (n.Tuned q epsilon ∷ wide_collects s (rounds s before + 1)) h.begun;
    }
turn_well o k some set before (n.Sent to frame) accepted legal h = absurd accepted
turn_well o k some set before (n.Published p) accepted legal h = absurd accepted

opened_well : (o : Opening) → IsSetUp o → IsWell o.settings (opened o)
opened_well o w =
    let set = w in
    record {
      each = batch_well o.settings [] (λ (p : ℕ × List (ℕ × ℤ)). p.0) (λ p. f.Assign 1 o.members p.1) (enumerate_from 1 o.factors) (λ p in' b. record {
        some = (let c = set.count in let l = set.limits.some_member in omega (arith, c, l));
        few = (let c = set.count in let l = set.limits.k in omega (arith, c, l));
        ascends = set.ascends;
        within = set.within;
        each = w.given p in';
      });
      begun = λ mon m. let e = first_sent o mon set m in omega (arith, e);
    }

pub legal_well : (o : Opening) (j : List Noted) → IsSetUp o → IsLegal o j → IsWell o.settings j
legal_well o j w legal =
    let k = one_less o.settings.monitors w.limits.some_monitor in
    by_turns o (IsWell o.settings) (λ before input accepted legal' h. turn_well o k.0 k.1 w before input accepted legal' h) (opened_well o w) j legal
