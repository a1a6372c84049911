-- Open rounds: whoever is not asked has the Report that opened the round.
use Rattle.std.proofs.Common.{◌≡◌, ℕ, suc, zero, Bool, true, false, not, ◌+◌, ◌≤◌, ◌<◌, ◌==◌, ◌||◌, ◌&&◌, List, [], ◌∷◌, ◌++◌, Option, Some, None, refl, sym, ap, ◌∙◌, arith, inl, inr}
use Rattle.std.specs.Prelude.{is_some, if◌then◌else◌}
use Rattle.std.specs.List.{list_any, range_with_len}
use Rattle.std.proofs.lemmas.Bool.{eq-eqb, cases_eq, or_cases, true≢false}
use Rattle.std.proofs.Math.Bool.{or-true}
use Rattle.tk_base.specs.Settings.{Setup}
use Rattle.tk_base.specs.Objects.{is_in}
use Rattle.tk_base.specs.declared.ids.Mon.{Mon}
use Rattle.tk_base.proofs.BoolLemmas.{neither_right}
use Rattle.tk_frames.specs.declared.frame.Frame.{Frame}
use Rattle.tk_frames.specs.declared.frame.Frame.TheVariants as f
use Rattle.tk_alloc.specs.declared.reported.Reported.{Reported}
use Rattle.tk_journal.specs.Readings.{monitors, last_round, asked_of, values_of, values_for, waits_for, is_open, answer_of}
use Rattle.tk_journal.specs.Turns.{collects}
use Rattle.tk_journal.specs.Deciding.{report_of, answered_report}
use Rattle.tk_journal.specs.Refusal.{refusal_of, is_report}
use Rattle.tk_journal.specs.declared.noted.Noted.{Noted}
use Rattle.tk_journal.specs.declared.noted.Noted.TheVariants as n
use Rattle.tk_journal.proofs.Appends.{later, asked_of-append}
use Rattle.tk_journal.proofs.Pieces.{got_round, got_asked, got_values}
use Rattle.tk_journal.proofs.Batches.{plain_answer, collects_asked, collects_round}
use Rattle.tk_journal.proofs.Same.{AreSame, open_same}
use Rattle.tk_journal.specs.Laws.{IsMonitor}
use Rattle.tk_journal.proofs.Reports.{IsThere, closed_waits}
use Rattle.tk_journal.proofs.Accepted.{report_stays}

-- while a round is open, a monitor that it did not ask stands with a Report
abbrev pub HasOpeners : Setup → List Noted → Type 0
HasOpeners s j = is_open s j ≡ true → (mon : ℕ) → IsMonitor s mon → is_some (asked_of (last_round j) mon j) ≡ false → is_report (answer_of mon j) ≡ true

pub openers_same : (s : Setup) (a b : List Noted) → AreSame s a b → HasOpeners s a → HasOpeners s b
openers_same s a b e h is mon r none =
    ap is_report (e.answer mon)
    ∙ h (sym (open_same s a b e) ∙ is) mon r
    (ap is_some (sym (e.asked (last_round a) mon)) ∙ ap (λ q. is_some (asked_of q mon b)) (sym e.round) ∙ none)

-- a round that is not open has no need of one
pub openers_closed : (s : Setup) (j : List Noted) → is_open s j ≡ false → HasOpeners s j
openers_closed s j closed is mon r none = absurd (true≢false (sym is ∙ closed))

-- ---- a taken frame opens no round

pub waits_less : (asked : Option (List ℕ)) (values more : Option Reported) → (is_some asked && not (is_some (later values more))) ≡ true → (is_some asked && not (is_some values)) ≡ true
waits_less None values more h = h
waits_less (Some x) values None h = h
waits_less (Some x) values (Some y) h = cc

got_waits : (r mon : ℕ) (j : List Noted) (from : Mon) (frame : Frame) → waits_for r mon (j ++ n.Got from frame ∷ []) ≡ true → waits_for r mon j ≡ true
unfolding waits_for
got_waits r mon j from frame h =
    waits_less (asked_of r mon j) (values_of r mon j) (if from.0 == mon then values_for r mon frame else None)
    (sym (ap (λ x. is_some x && not (is_some (values_of r mon (j ++ n.Got from frame ∷ [])))) (got_asked r mon j from frame)
    ∙ ap (λ y. is_some (asked_of r mon j) && not (is_some y)) (got_values r mon j from frame)) ∙ h)

any_less : (g h : ℕ → Bool) (xs : List ℕ) → ((x : ℕ) → g x ≡ true → h x ≡ true) → list_any g xs ≡ true → list_any h xs ≡ true
any_less g h [] less e = cc
any_less g h (x ∷ xs) less e =
    elim (or_cases (g x) (list_any g xs) e) [
      | inl here ↦ ap (λ b. b || list_any h xs) (less x here)
      | inr there ↦ ap (λ b. h x || b) (any_less g h xs less there) ∙ or-true (h x)
    ]

pub open_got : (s : Setup) (j : List Noted) (from : Mon) (frame : Frame) → is_open s (j ++ n.Got from frame ∷ []) ≡ true → is_open s j ≡ true
unfolding is_open
open_got s j from frame h =
    any_less (λ mon. waits_for (last_round j) mon (j ++ n.Got from frame ∷ [])) (λ mon. waits_for (last_round j) mon j) (monitors s) (λ mon w. got_waits (last_round j) mon j from frame w)
    (ap (λ r. list_any (λ mon. waits_for r mon (j ++ n.Got from frame ∷ [])) (monitors s)) (sym (got_round j from frame)) ∙ h)

got_unasked : (j : List Noted) (mon : ℕ) (from : Mon) (frame : Frame) → is_some (asked_of (last_round (j ++ n.Got from frame ∷ [])) mon (j ++ n.Got from frame ∷ [])) ≡ false
    → is_some (asked_of (last_round j) mon j) ≡ false
got_unasked j mon from frame none =
    sym (ap (λ q. is_some (asked_of q mon (j ++ n.Got from frame ∷ []))) (got_round j from frame) ∙ ap is_some (got_asked (last_round j) mon j from frame)) ∙ none

-- those that are not asked keep their Reports
pub openers_kept : (s : Setup) (j : List Noted) (from : Mon) (frame : Frame) → refusal_of s j from.0 frame ≡ None → is_open s j ≡ true → HasOpeners s j
    → (mon : ℕ) → IsMonitor s mon → is_some (asked_of (last_round (j ++ n.Got from frame ∷ [])) mon (j ++ n.Got from frame ∷ [])) ≡ false → is_report (answer_of mon (j ++ n.Got from frame ∷ [])) ≡ true
openers_kept s j from frame none is h mon r unasked =
    let before = h is mon r (got_unasked j mon from frame unasked) in
    ap is_report (report_stays s j mon from frame none before) ∙ before

pub openers_got : (s : Setup) (j : List Noted) (from : Mon) (frame : Frame) → refusal_of s j from.0 frame ≡ None → HasOpeners s j → HasOpeners s (j ++ n.Got from frame ∷ [])
openers_got s j from frame none h is = openers_kept s j from frame none (open_got s j from frame is) h

-- ---- Collects: whoever gets none stands with a Report

pub is_in_range : (a k mon : ℕ) → a ≤ mon → mon < a + k → is_in (range_with_len a k) mon ≡ true
is_in_range a zero mon low high = absurd (omega (arith, low, high))
is_in_range a (suc k) mon low high =
    elim (cases_eq a mon) [
      | inl e ↦ ap (λ b. b || is_in (range_with_len (a + 1) k) mon) (eq-eqb a mon e)
      | inr ne ↦ ap (λ b. (a == mon) || b) (is_in_range (a + 1) k mon (omega (arith, low, ne)) (omega (arith, high))) ∙ or-true (a == mon)
    ]

chosen_some : (b : Bool) (asked : List ℕ) → is_some (if b then Some asked else None) ≡ b
chosen_some true asked = refl
chosen_some false asked = refl

later_some : (x y : Option (List ℕ)) → is_some (later x y) ≡ (is_some x || is_some y)
later_some None None = refl
later_some None (Some y) = refl
later_some (Some x) None = refl
later_some (Some x) (Some y) = refl

pub collects_unasked : (j : List Noted) (round mon : ℕ) (asked : List ℕ) (q : ℕ) (mons : List ℕ) → is_some (asked_of (last_round (j ++ collects round asked (q ∷ mons))) mon (j ++ collects round asked (q ∷ mons))) ≡ false
    → is_in (q ∷ mons) mon ≡ false
collects_unasked j round mon asked q mons none =
    let same : is_some (asked_of round mon (j ++ collects round asked (q ∷ mons))) ≡ (is_some (asked_of round mon j) || is_in (q ∷ mons) mon) =
    ap is_some (asked_of-append round mon j (collects round asked (q ∷ mons)) ∙ ap (later (asked_of round mon j)) (collects_asked round mon asked (q ∷ mons) (eq-eqb round round refl)))
    ∙ later_some (asked_of round mon j) (if is_in (q ∷ mons) mon then Some asked else None)
    ∙ ap (λ b. is_some (asked_of round mon j) || b) (chosen_some (is_in (q ∷ mons) mon) asked) in
    neither_right (is_some (asked_of round mon j)) (is_in (q ∷ mons) mon) (sym same ∙ ap (λ r. is_some (asked_of r mon (j ++ collects round asked (q ∷ mons)))) (sym (collects_round j round asked q mons)) ∙ none)

pub openers_collects : (s : Setup) (j : List Noted) (round : ℕ) (asked : List ℕ) (q : ℕ) (mons : List ℕ)
    → ((mon : ℕ) → IsMonitor s mon → is_in (q ∷ mons) mon ≡ false → is_report (answer_of mon j) ≡ true) → HasOpeners s (j ++ collects round asked (q ∷ mons))
openers_collects s j round asked q mons others is mon r none =
    ap is_report (plain_answer mon j (λ m. m) (λ _. f.Collect round asked) (q ∷ mons) (λ _. refl)) ∙ others mon r (collects_unasked j round mon asked q mons none)

-- ---- where a round has ended, every monitor has reported to it

report_is_there : (mon : ℕ) (answer : Option Frame) → is_report answer ≡ true → IsThere (answered_report mon answer)
report_is_there mon None h = cc
report_is_there mon (Some (f.Hello run version m)) h = cc
report_is_there mon (Some (f.Report seq border failed values)) h = (record { mon = record { 0 = mon }; values = values; border = border }, refl)
report_is_there mon (Some (f.Collect r asked)) h = cc
report_is_there mon (Some (f.Values r seq border values)) h = cc
report_is_there mon (Some (f.Assign seq members changes)) h = cc
report_is_there mon (Some (f.Settled seq last places)) h = cc
report_is_there mon (Some f.Stop) h = cc

either_there : {B : Type 0} (b : Bool) (x y : Option B) → (b ≡ true → IsThere x) → (b ≡ false → IsThere y) → IsThere (if b then x else y)
either_there true x y p q = p refl
either_there false x y p q = q refl

pub values_there : (asked : Option (List ℕ)) (values : Option Reported) → (is_some asked && not (is_some values)) ≡ false → is_some asked ≡ true → IsThere values
values_there asked (Some y) e some = (y, refl)
values_there (Some x) None e some = cc
values_there None None e some = cc

pub all_reported : (s : Setup) (j : List Noted) → is_open s j ≡ false
    → ((mon : ℕ) → IsMonitor s mon → is_some (asked_of (last_round j) mon j) ≡ false → is_report (answer_of mon j) ≡ true)
    → (mon : ℕ) → IsMonitor s mon → IsThere (report_of mon j)
unfolding report_of waits_for
all_reported s j closed others mon r =
    either_there (is_some (asked_of (last_round j) mon j)) (values_of (last_round j) mon j) (answered_report mon (answer_of mon j))
    (λ asked. values_there (asked_of (last_round j) mon j) (values_of (last_round j) mon j) (closed_waits s j closed mon r) asked)
    (λ unasked. report_is_there mon (answer_of mon j) (others mon r unasked))
