-- Turns that send an Assign to each fit their records.
use Rattle.std.proofs.Common.{◌≡◌, ℕ, ◌+◌, ◌≤◌, ◌<◌, ◌==◌, ℤ, Bool, true, false, List, [], ◌∷◌, ◌++◌, length, map, drop, None, refl, sym, ap, ◌∙◌, subst, arith}
use Rattle.std.specs.Prelude.{filter, nat_lt, if◌then◌else◌}
use Rattle.std.specs.List.{range_with_len}
use Rattle.std.proofs.lemmas.Bool.{eqb-true, true≢false, lt-ltb, or_left}
use Rattle.std.proofs.lemmas.List.{length-append}
use Rattle.tk_base.specs.Settings.{Setup}
use Rattle.tk_base.specs.declared.ids.Mon.{Mon}
use Rattle.tk_frames.specs.Assigns.{Assign}
use Rattle.tk_frames.specs.declared.frame.Frame.{Frame}
use Rattle.tk_journal.specs.Deciding.{Decided, reports_at}
use Rattle.tk_journal.specs.Laws.{IsMonitor}
use Rattle.tk_journal.specs.Legal.{start}
use Rattle.tk_journal.specs.Links.{frames_to}
use Rattle.tk_journal.specs.Readings.{assigns_sent, assigns_to, is_open}
use Rattle.tk_journal.specs.Refusal.{refusal_of}
use Rattle.tk_journal.specs.Turns.{assigns, demanded, fails_at, full_at, is_wide, reported, streak}
use Rattle.tk_journal.specs.declared.noted.Noted.{Noted}
use Rattle.tk_journal.proofs.Batches.{named, named_assigns}
use Rattle.tk_journal.proofs.Naming.{one_row}
use Rattle.tk_journal.proofs.Orderly.{IsEnding, Row, assigns_got, full_nodes, open_named, sends}
use Rattle.tk_journal.proofs.Pieces.{got_assigns}
use Rattle.tk_journal.proofs.Same.{open_same}
use Rattle.tk_journal.proofs.Turning.{closed_got, values_ending}
use Rattle.tk_trail.specs.Readings.{seq_of}
use Rattle.tk_trail.specs.declared.entry.Entry.{Entry}
use Rattle.tk_drain.specs.Energy.{Local}
use Rattle.tk_drain.specs.Moves.{Ends, Lone}
use Rattle.tk_journal.specs.Shapes.{IsFreshReport, IsLastValues}
use Rattle.tk_trail.specs.Still.{is_present, is_still}
use Rattle.tk_journal.proofs.GrowLemmas.{range_rises, with_got}
use Rattle.tk_story.proofs.JoinLemmas.{seq_at_most}
use Rattle.tk_world.specs.Events.{is_monitor}
use Rattle.tk_story.specs.Story.{StoryView, setup_of, trail_of}
use Rattle.tk_story.proofs.QuietLemmas.{joined}
use Rattle.tk_drain.specs.Reads.{local_of, nobody, reading, readings}
use Rattle.tk_drain.proofs.TurnReads.{Turning, goes_by, mid, once_most, same_mid, stops_count, turned, turns_by, wide_got}
use Rattle.tk_drain.proofs.TurnFalls.{report_strains}
use Rattle.tk_world.proofs.StepLemmas.{monitor_is}

pub present_by : (b : Bool) (x : Local) → (b ≡ true → x.present ≡ true) → (if b then x else nobody).present ≡ true
present_by true x each = each refl
present_by false x each = refl

pub present_less : (sent : ℕ) (trail : List Entry) → seq_of trail < sent → is_present sent trail ≡ true
present_less sent trail less = or_left (nat_lt (seq_of trail) sent) (is_still trail) (lt-ltb (seq_of trail) sent less)

-- one more Assign behind a batch in which a monitor has one row
pub assigned_once : (q : ℕ) (j' j : List Noted) (take : Row → Assign) (rows : List Row) (x : Row) → assigns_to q j' ≡ assigns_to q j ++ map take rows → rows ≡ x ∷ [] → assigns_sent q j' ≡ assigns_sent q j + 1
unfolding assigns_sent
assigned_once q j' j take rows x is alone =
    let a = ap (λ (xs : List Assign). length xs) (is ∙ ap (λ ys. assigns_to q j ++ map take ys) alone) in
    let l = length-append (assigns_to q j) (take x ∷ []) in
    omega (arith, a, l)

-- the monitor is present behind it
pub renewed_by : (s : StoryView) (from : Mon) (frame : Frame) → Turning s from frame → (q : ℕ) → IsMonitor s.settings q → assigns_sent q (turned s from frame).journal ≡ assigns_sent q s.journal + 1
    → is_present (assigns_sent q (turned s from frame).journal) (trail_of s q) ≡ true
renewed_by s from frame t q m more =
    let most = seq_at_most (start s.settings) s.journal q (setup_of s q) (trail_of s q) (joined s t.story q m) in
    present_less (assigns_sent q (turned s from frame).journal) (trail_of s q) (omega (arith, most, more))

pub record SentAll (s : StoryView) (from : Mon) (frame : Frame) : Type 0 where
  pub few : (q : ℕ) → IsMonitor s.settings q → length (frames_to q (demanded s.settings s.journal from.0 frame)) ≤ 1
  pub closed : is_open s.settings (turned s from frame).journal ≡ false
  pub renewed : (q : ℕ) → (local_of (turned s from frame) q).present ≡ true

pub sent_all : (s : StoryView) (from : Mon) (frame : Frame) → Turning s from frame → (decided : Decided) → demanded s.settings s.journal from.0 frame ≡ assigns (with_got s.journal from frame) decided
    → map (λ (d : Row). d.0) (drop 1 decided.dealt) ≡ range_with_len 1 s.settings.monitors → is_open s.settings (with_got s.journal from frame) ≡ false → SentAll s from frame
sent_all s from frame t decided e nodes closed =
    let now = with_got s.journal from frame in
    let rows = drop 1 decided.dealt in
    let j' = (turned s from frame).journal in
    let same = same_mid s from frame in
    let is : mid s from frame ≡ now ++ sends now decided.members rows = ap (λ xs. now ++ xs) e in
    record {
      few = λ q _. let z = ap (λ xs. length (frames_to q xs)) e in let w = once_most q (λ (d : Row). d.0) (named (λ d. assigns_sent d.0 now + 1) decided.members (λ d. d.1)) rows (range_with_len 1 s.settings.monitors) nodes (range_rises s.settings.monitors) in omega (arith, z, w);
      closed = open_same s.settings (mid s from frame) j' same ∙ ap (is_open s.settings) is ∙ open_named s.settings now (λ (d : Row). d.0) (λ d. assigns_sent d.0 now + 1) decided.members (λ d. d.1) rows ∙ closed;
      renewed = λ q. present_by (is_monitor s q) (reading (setup_of s q) (trail_of s q) q j') (λ b.
          let m = monitor_is s q b in
          let row = one_row (λ (d : Row). d.0) 1 s.settings.monitors rows q nodes m.from_one (let w = m.within in omega (arith, w)) in
          let to : assigns_to q j' ≡ assigns_to q s.journal ++ map (λ (d : Row). record { members = decided.members; changes = d.1 }) (filter (λ d. d.0 == q) rows) =
          same.assigns q ∙ ap (assigns_to q) is ∙ named_assigns q now (λ (d : Row). d.0) (λ d. assigns_sent d.0 now + 1) decided.members (λ d. d.1) rows
          ∙ ap (λ (xs : List Assign). xs ++ map (λ (d : Row). record { members = decided.members; changes = d.1 }) (filter (λ d. d.0 == q) rows)) (got_assigns q s.journal from frame) in
          renewed_by s from frame t q m (assigned_once q j' s.journal (λ (d : Row). record { members = decided.members; changes = d.1 }) (filter (λ d. d.0 == q) rows) row.row to row.alone));
    }

pub ending_of : (s : Setup) (before : List Noted) (from : Mon) (frame : Frame) → IsMonitor s from.0 → refusal_of s before from.0 frame ≡ None → Rattle.tk_journal.proofs.Orderly.IsOrderly s before → IsLastValues s before from frame
    → IsEnding s (with_got before from frame) (reports_at s (with_got before from frame))
ending_of s before from frame range none o v =
    subst (λ (g : Frame). refusal_of s before from.0 g ≡ None → is_open s (with_got before from g) ≡ false → IsEnding s (with_got before from g) (reports_at s (with_got before from g))) (sym v.is)
    (λ none' closed'. values_ending s before from v.round (assigns_sent from.0 before) v.border v.values range none' o closed') none v.closed

pub values_pass : (s : Setup) (before : List Noted) (from : Mon) (frame : Frame) → IsLastValues s before from frame → fails_at s before from.0 frame ≡ false
values_pass s before from frame v = ap (λ g. fails_at s before from.0 g) v.is

pub end_full_fits : (s : StoryView) (from : Mon) (frame : Frame) → Turning s from frame → IsLastValues s.settings s.journal from frame → is_wide s.settings (with_got s.journal from frame) ≡ false
    → demanded s.settings s.journal from.0 frame ≡ assigns (with_got s.journal from frame) (full_at s.settings (with_got s.journal from frame) (reports_at s.settings (with_got s.journal from frame)))
    → Ends s.settings.monitors from.0 (stops_count s.settings (mid s from frame)) (readings s) (readings (turned s from frame)) (λ _. 1)
end_full_fits s from frame t v full e =
    let now = with_got s.journal from frame in
    let reports = reports_at s.settings now in
    let ending = ending_of s.settings s.journal from frame t.monitor t.none t.order v in
    let a = sent_all s from frame t (full_at s.settings now reports) e (full_nodes s.settings now reports ∙ ending.all) v.closed in
    record {
      turn = turns_by s from frame t (λ _. 1) a.few;
      most = λ q. omega arith;
      goes = goes_by s from frame t false (values_pass s.settings s.journal from frame v);
      opened = v.opened;
      closed = a.closed;
      renewed = a.renewed;
      mended = λ wide. absurd (true≢false (sym wide ∙ sym (wide_got s.settings s.journal from frame) ∙ full));
    }

pub lone_fits : (s : StoryView) (from : Mon) (frame : Frame) → Turning s from frame → (border : ℤ) (failed : List ℕ) (values : List (ℕ × ℤ)) → IsFreshReport s.settings s.journal from frame border failed values
    → fails_at s.settings s.journal from.0 frame ≡ true → streak s.settings s.journal < 8 → (s.settings.monitors == 1) ≡ true
    → demanded s.settings s.journal from.0 frame ≡ assigns s.journal (full_at s.settings s.journal (reported from.0 border values ∷ []))
    → Lone s.settings.monitors from.0 (stops_count s.settings (mid s from frame)) (readings s) (readings (turned s from frame)) (λ _. 1)
lone_fits s from frame t border failed values r fails few lone e =
    let reports = reported from.0 border values ∷ [] in
    let decided = full_at s.settings s.journal reports in
    let only : s.settings.monitors ≡ 1 = eqb-true s.settings.monitors 1 lone in
    let own : from.0 ≡ 1 = (let a = t.monitor.from_one in let b = t.monitor.within in omega (arith, a, b, only)) in
    let a = sent_all s from frame t decided (e ∙ assigns_got s.journal from frame decided) (full_nodes s.settings s.journal reports ∙ ap (λ q. q ∷ []) own ∙ ap (range_with_len 1) (sym only)) (closed_got s.settings s.journal from frame r.closed) in
    record {
      turn = turns_by s from frame t (λ _. 1) a.few;
      most = λ q. omega arith;
      goes = goes_by s from frame t true fails;
      was = r.closed;
      closed = a.closed;
      few = few;
      renewed = a.renewed;
      report = report_strains s from frame t border failed values r;
    }
