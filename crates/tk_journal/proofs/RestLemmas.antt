-- Where no round is open no Report stands; what was gathered by an open round is fresh; and before each further Assign the monitor was heard.
use Rattle.tk_journal.specs.declared.noted.Noted.TheVariants as n
use Rattle.std.proofs.Common.{◌≡◌, ℕ, suc, ◌+◌, ◌==◌, Bool, true, false, List, [], ◌∷◌, ◌++◌, Some, refl, sym, ap, ◌∙◌, subst, arith, inl, inr}
use Rattle.std.specs.Prelude.{ℤ, if◌then◌else◌}
use Rattle.std.specs.List.{enumerate_from, range_with_len}
use Rattle.std.proofs.lemmas.Bool.{cases_eq, true≢false, eq-eqb, eqb-true, ne_eqb, false_from_ne_true}
use Rattle.tk_base.specs.Settings.{Setup}
use Rattle.tk_base.specs.declared.ids.Mon.{Mon}
use Rattle.tk_frames.specs.declared.frame.Frame.{Frame}
use Rattle.tk_frames.specs.Carried.{is_numbered}
use Rattle.tk_journal.specs.Laws.{IsMonitor, IsSetUp}
use Rattle.tk_journal.specs.Legal.{Opening, IsLegal, opened}
use Rattle.tk_journal.specs.Publishing.{closing}
use Rattle.tk_journal.specs.Readings.{assigns_sent, answer_of, is_open}
use Rattle.tk_journal.specs.Refusal.{is_report}
use Rattle.tk_journal.specs.Turns.{demanded, rounds}
use Rattle.tk_journal.specs.declared.noted.Noted.{Noted}
use Rattle.tk_journal.proofs.Pieces.{got_answer}
use Rattle.tk_journal.proofs.Batches.{named_answer, unnamed_answer}
use Rattle.tk_journal.proofs.Naming.{one_row}
use Rattle.tk_journal.proofs.Same.{open_same, same_closing}
use Rattle.tk_journal.proofs.Orderly.{IsOrderly, Row, orderly_same}
use Rattle.tk_journal.proofs.SoundLemmas.{collects_open}
use Rattle.tk_journal.proofs.Turning.{orderly_demanded}
use Rattle.tk_journal.proofs.LegalLemmas.{FrameTurn, by_parts, legal_carries, orderly_parts, orderly_tuned, tuned_round, opened_orderly, numbered_factors}
use Rattle.tk_journal.proofs.LawLemmas.{one_less}
use Rattle.tk_journal.proofs.GrowLemmas.{Grows, grows, with_got}
use Rattle.tk_journal.proofs.GrowLemmas.Grows.{Nothing, ToOne, ToAll, Asks}

abbrev pub NoReport : Setup → List Noted → Type 0
NoReport s j = is_open s j ≡ false → (mon : ℕ) → IsMonitor s mon → is_report (answer_of mon j) ≡ false

-- the answer of a monitor once a frame is taken, where no Report may come
got_quiet : (s : Setup) (before : List Noted) (from : Mon) (frame : Frame) (mon : ℕ) (own fresh : Bool) → from.0 == mon ≡ own → is_numbered (assigns_sent mon before) frame ≡ fresh → (own ≡ true → fresh ≡ true → is_report (Some frame) ≡ false)
    → is_report (answer_of mon before) ≡ false → is_report (if own then (if fresh then Some frame else answer_of mon before) else answer_of mon before) ≡ false
got_quiet s before from frame mon true true o f quiet old = quiet refl refl
got_quiet s before from frame mon true false o f quiet old = old
got_quiet s before from frame mon false fresh o f quiet old = old

got_no_report : (s : Setup) (before : List Noted) (from : Mon) (frame : Frame) (mon : ℕ) → (from.0 ≡ mon → is_numbered (assigns_sent from.0 before) frame ≡ true → is_report (Some frame) ≡ false) → is_report (answer_of mon before) ≡ false
    → is_report (answer_of mon (with_got before from frame)) ≡ false
got_no_report s before from frame mon quiet old =
    ap is_report (got_answer mon before from frame)
    ∙ got_quiet s before from frame mon (from.0 == mon) (is_numbered (assigns_sent mon before) frame) refl refl
    (λ own fresh. let e : from.0 ≡ mon = eqb-true from.0 mon own in quiet e (subst (λ q. is_numbered (assigns_sent q before) frame ≡ true) (sym e) fresh)) old

grown_no_report : (s : Setup) (before : List Noted) (from : Mon) (frame : Frame) (after : List Noted) → Grows s before from frame after → NoReport s before → NoReport s after
grown_no_report s before from frame after (Nothing e same resting) h closed mon m =
    let was : is_open s before ≡ false = sym same ∙ sym (ap (is_open s) e) ∙ closed in
    ap (λ j. is_report (answer_of mon j)) e
    ∙ got_no_report s before from frame mon (λ own fresh. false_from_ne_true (is_report (Some frame)) (λ is. true≢false (sym (resting fresh is) ∙ was))) (h was mon m)
grown_no_report s before from frame after (ToOne members row border failed values fresh' node was closed' e) h closed mon m =
    let now = with_got before from frame in
    elim (cases_eq row.0 mon) [
      | inl own ↦
          ap (λ j. is_report (answer_of mon j)) e
          ∙ ap is_report (named_answer mon now (λ (d : Row). d.0) (λ d. assigns_sent d.0 now + 1) members (λ d. d.1) (row ∷ []) row [] (ap (λ b. if b then row ∷ [] else []) (eq-eqb row.0 mon own)))
      | inr other ↦
          ap (λ j. is_report (answer_of mon j)) e
          ∙ ap is_report (unnamed_answer mon now (λ (d : Row). d.0) (λ d. assigns_sent d.0 now + 1) members (λ d. d.1) (row ∷ []) (ap (λ b. if b then row ∷ [] else []) (ne_eqb row.0 mon other)))
          ∙ got_no_report s before from frame mon (λ own fresh. absurd (other (node ∙ own))) (h was mon m)
    ]
grown_no_report s before from frame after (ToAll members rows cause nodes closed' e) h closed mon m =
    let now = with_got before from frame in
    let row = one_row (λ (d : Row). d.0) 1 s.monitors rows mon nodes m.from_one (let w = m.within in omega (arith, w)) in
    ap (λ j. is_report (answer_of mon j)) e ∙ ap is_report (named_answer mon now (λ (d : Row). d.0) (λ d. assigns_sent d.0 now + 1) members (λ d. d.1) rows row.row [] row.alone)
grown_no_report s before from frame after (Asks round asked q mons rising closed' new e opened) h closed mon m = absurd (true≢false (sym opened ∙ closed))

record IsQuiet (s : Setup) (j : List Noted) : Type 0 where
  order : IsOrderly s j
  quiet : NoReport s j

quiet_parts : (s : Setup) (k : ℕ) → s.monitors ≡ suc k → FrameTurn s (IsQuiet s)
quiet_parts s k some = record {
  demands = λ before from frame range none h. record {
    order = orderly_demanded s before from frame k some range none h.order;
    quiet = grown_no_report s before from frame (with_got before from frame ++ demanded s before from.0 frame) (grows s before from frame k some range none h.order) h.quiet;
  };
  closes = λ j h. record {
    order = orderly_same s j (j ++ closing s j) (same_closing s j) h.order;
    quiet = λ closed mon m. ap is_report ((same_closing s j).answer mon) ∙ h.quiet (sym (open_same s j (j ++ closing s j) (same_closing s j)) ∙ closed) mon m;
  };
  tunes = λ before q epsilon accepted h. record {
    order = (orderly_parts s k some).tunes before q epsilon accepted h.order;
    quiet = λ closed mon m.
        let mid = before ++ n.Tuned q epsilon ∷ [] in
        let o = orderly_tuned s before q epsilon h.order in
        absurd (true≢false (sym (collects_open s mid (rounds s before + 1) k some o.counted (let t = tuned_round before q epsilon in let l = h.order.counted.last in omega (arith, t, l))) ∙ closed));
  };
}

opened_quiet : (o : Opening) → IsSetUp o → NoReport o.settings (opened o)
opened_quiet o set closed mon m =
    let rows = enumerate_from 1 o.factors in
    let row = one_row (λ (p : ℕ × List (ℕ × ℤ)). p.0) 1 o.settings.monitors rows mon (numbered_factors 1 o.factors ∙ ap (range_with_len 1) set.factors) m.from_one (let w = m.within in omega (arith, w)) in
    ap is_report (named_answer mon [] (λ (p : ℕ × List (ℕ × ℤ)). p.0) (λ _. 1) o.members (λ p. p.1) rows row.row [] row.alone)

-- where no round is open, no current answer is a Report
pub no_report_stands : (o : Opening) (j : List Noted) (mon : ℕ) → IsSetUp o → IsLegal o j → IsMonitor o.settings mon → is_open o.settings j ≡ false → is_report (answer_of mon j) ≡ false
no_report_stands o j mon set legal m closed =
    let s = o.settings in
    let k = one_less s.monitors set.limits.some_monitor in
    (legal_carries o (IsQuiet s) (by_parts s (IsQuiet s) (quiet_parts s k.0 k.1)) (record { order = opened_orderly o k.0 k.1 set.factors; quiet = opened_quiet o set }) j legal).quiet closed mon m
