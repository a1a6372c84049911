-- What it means that a frame was not refused.
use Rattle.std.proofs.Common.{◌≡◌, ℕ, Bool, true, false, not, ◌≤◌, ◌<◌, ◌==◌, ◌⊎◌, List, [], ◌∷◌, ◌++◌, Option, Some, None, refl, sym, ap, ◌∙◌, subst, arith, inl, inr}
use Rattle.std.specs.Prelude.{ℤ, nat_lt, if◌then◌else◌}
use Rattle.std.specs.Option.{option_map}
use Rattle.std.proofs.lemmas.Bool.{ltb-true, ltb-false, eqb-true, true≢false, not-false, ne_eqb}
use Rattle.tk_base.specs.Settings.{Setup}
use Rattle.tk_base.specs.declared.ids.Mon.{Mon}
use Rattle.tk_base.proofs.OptionLemmas.{if_none}
use Rattle.tk_frames.specs.declared.frame.Frame.{Frame}
use Rattle.tk_frames.specs.Carried.{is_numbered}
use Rattle.tk_frames.specs.declared.frame.Frame.TheVariants as f
use Rattle.tk_journal.specs.Readings.{assigns_sent, answer_of, last_round, asked_of, values_for, waits_for, is_stopped}
use Rattle.tk_journal.specs.Refusal.{Shown, Known, refusal_of, refusal_of_kind, refusal_of_answer, refusal_of_awaited, refusal_of_values, refusal_of_report, refusal_of_cut, is_awaited, asked_in, waits_at, shown_by, known_by, is_report}
use Rattle.tk_journal.specs.declared.noted.Noted.{Noted}
use Rattle.tk_journal.specs.declared.noted.Noted.TheVariants as n
use Rattle.tk_journal.specs.declared.refusal.CoordRefusal.{CoordRefusal}
use Rattle.tk_journal.specs.declared.refusal.CoordRefusal.TheVariants.{AfterStop, AheadOfSequence, NotAsked, BehindSequence, AfterReport}
use Rattle.tk_journal.proofs.Pieces.{got_answer}

-- it comes before Stop, and passes the tests of its kind
pub accepted_kind : (s : Setup) (j : List Noted) (mon : ℕ) (frame : Frame) → refusal_of s j mon frame ≡ None
    → (is_stopped j ≡ false) × (refusal_of_kind (shown_by mon j) (known_by s mon j) frame ≡ None)
unfolding refusal_of
accepted_kind s j mon frame none = if_none (is_stopped j) AfterStop (refusal_of_kind (shown_by mon j) (known_by s mon j) frame) none

-- an answer that passed its tests: stale, or fresh with no Report before it
pub record IsFresh (shown : Shown) (seq : ℕ) (content : Option CoordRefusal) : Type 0 where
  pub now : seq ≡ shown.at
  pub first : shown.reported ≡ false
  pub passes : content ≡ None

fresh_or_stale : (shown : Shown) (seq : ℕ) (content : Option CoordRefusal) (stale : Bool) → nat_lt seq shown.at ≡ stale → seq ≤ shown.at
    → (if stale then None else (if shown.reported then Some (AfterReport seq) else content)) ≡ None → (seq < shown.at) ⊎ IsFresh shown seq content
fresh_or_stale shown seq content true is most none = inl (ltb-true seq shown.at is)
fresh_or_stale shown seq content false is most none =
    let rest = if_none shown.reported (AfterReport seq) content none in
    inr (record { now = omega (arith, most, ltb-false seq shown.at is); first = rest.0; passes = rest.1 })

pub accepted_answer : (shown : Shown) (seq : ℕ) (content : Option CoordRefusal) → refusal_of_answer shown seq content ≡ None → (seq < shown.at) ⊎ IsFresh shown seq content
accepted_answer shown seq content none =
    let ahead = if_none (nat_lt shown.at seq) (AheadOfSequence shown.at seq) (if nat_lt seq shown.at then None else (if shown.reported then Some (AfterReport seq) else content)) none in
    fresh_or_stale shown seq content (nat_lt seq shown.at) refl (ltb-false shown.at seq ahead.0) ahead.1

-- Values that passed their tests
pub record IsAwaited (shown : Shown) (known : Known) (round seq : ℕ) (border : ℤ) (values : List (ℕ × ℤ)) : Type 0 where
  pub now : seq ≡ shown.at
  pub awaited : is_awaited shown.waits round ≡ true
  pub content : refusal_of_values known (asked_in shown.waits) border values ≡ None

pub accepted_values : (shown : Shown) (known : Known) (round seq : ℕ) (border : ℤ) (values : List (ℕ × ℤ)) → refusal_of_awaited shown known round seq border values ≡ None
    → IsAwaited shown known round seq border values
accepted_values shown known round seq border values none =
    let content = refusal_of_values known (asked_in shown.waits) border values in
    let behind = if nat_lt seq shown.at then Some (BehindSequence shown.at seq) else content in
    let ahead = if_none (nat_lt shown.at seq) (AheadOfSequence shown.at seq) (if not (is_awaited shown.waits round) then Some (NotAsked round) else behind) none in
    let asked = if_none (not (is_awaited shown.waits round)) (NotAsked round) behind ahead.1 in
    let late = if_none (nat_lt seq shown.at) (BehindSequence shown.at seq) content asked.1 in
    record {
      now = omega (arith, ltb-false shown.at seq ahead.0, ltb-false seq shown.at late.0);
      awaited = not-false (is_awaited shown.waits round) asked.0;
      content = late.1;
    }

-- the round that waits for a monitor is the last one
pub record Waits (j : List Noted) (mon round : ℕ) : Type 0 where
  pub waits : waits_for (last_round j) mon j ≡ true
  pub last : round ≡ last_round j
  pub asked : asked_of (last_round j) mon j ≡ Some (asked_in (waits_at mon j))

awaited_some : (r round : ℕ) (asked : Option (List ℕ)) → is_awaited (option_map (λ xs. (r, xs)) asked) round ≡ true → (round ≡ r) × (asked ≡ Some (asked_in (option_map (λ xs. (r, xs)) asked)))
awaited_some r round None h = cc
awaited_some r round (Some xs) h = (sym (eqb-true r round h), refl)

awaited_if : (j : List Noted) (mon round : ℕ) (b : Bool) → waits_for (last_round j) mon j ≡ b
    → is_awaited (if b then option_map (λ asked. (last_round j, asked)) (asked_of (last_round j) mon j) else None) round ≡ true
    → (waits_for (last_round j) mon j ≡ true) × (round ≡ last_round j) × (asked_of (last_round j) mon j ≡ Some (asked_in (if b then option_map (λ asked. (last_round j, asked)) (asked_of (last_round j) mon j) else None)))
awaited_if j mon round true is h =
    let both = awaited_some (last_round j) round (asked_of (last_round j) mon j) h in (is, both.0, both.1)
awaited_if j mon round false is h = cc

pub awaited_waits : (j : List Noted) (mon round : ℕ) → is_awaited (waits_at mon j) round ≡ true → Waits j mon round
awaited_waits j mon round h =
    let all = awaited_if j mon round (waits_for (last_round j) mon j) refl h in
    record { waits = all.0; last = all.1; asked = all.2 }

-- ---- a standing Report stays the answer

blocked : (s : Setup) (j : List Noted) (mon seq : ℕ) (content : Option CoordRefusal) → refusal_of_answer (shown_by mon j) seq content ≡ None
    → is_report (answer_of mon j) ≡ true → seq == assigns_sent mon j ≡ false
blocked s j mon seq content none standing =
    elim (accepted_answer (shown_by mon j) seq content none) [
      | inl stale ↦ ne_eqb seq (assigns_sent mon j) (λ same. omega (arith, stale, same))
      | inr fresh ↦ absurd (true≢false (sym standing ∙ fresh.first))
    ]

no_answer : (s : Setup) (j : List Noted) (mon : ℕ) (frame : Frame) → refusal_of_kind (shown_by mon j) (known_by s mon j) frame ≡ None → is_report (answer_of mon j) ≡ true
    → is_numbered (assigns_sent mon j) frame ≡ false
no_answer s j mon (f.Hello run version m) none standing = refl
no_answer s j mon (f.Report seq border failed values) none standing = blocked s j mon seq (refusal_of_report (known_by s mon j) border failed values) none standing
no_answer s j mon (f.Collect round asked) none standing = refl
no_answer s j mon (f.Values round seq border values) none standing = refl
no_answer s j mon (f.Assign seq members changes) none standing = refl
no_answer s j mon (f.Settled seq last places) none standing = blocked s j mon seq (refusal_of_cut (shown_by mon j).progress last places) none standing
no_answer s j mon f.Stop none standing = refl

stays : (b c : Bool) (frame : Frame) (answer : Option Frame) → (b ≡ true → c ≡ false) → (if b then (if c then Some frame else answer) else answer) ≡ answer
stays true c frame answer h = ap (λ x. if x then Some frame else answer) (h refl)
stays false c frame answer h = refl

pub report_stays : (s : Setup) (j : List Noted) (mon : ℕ) (from : Mon) (frame : Frame) → refusal_of s j from.0 frame ≡ None → is_report (answer_of mon j) ≡ true
    → answer_of mon (j ++ n.Got from frame ∷ []) ≡ answer_of mon j
report_stays s j mon from frame none standing =
    got_answer mon j from frame
    ∙ stays (from.0 == mon) (is_numbered (assigns_sent mon j) frame) frame (answer_of mon j) (λ same.
    let e : from.0 ≡ mon = eqb-true from.0 mon same in
    no_answer s j mon frame (subst (λ (q : ℕ). refusal_of_kind (shown_by q j) (known_by s q j) frame ≡ None) e (accepted_kind s j from.0 frame none).1) standing)

-- ---- no Values of a round that was not opened

if_false : {X : Type 0} (b : Bool) (x : X) → b ≡ false → (if b then Some x else None) ≡ None
if_false true x h = cc
if_false false x h = refl

pub values_late : (s : Setup) (j : List Noted) (mon r : ℕ) (frame : Frame) → refusal_of s j mon frame ≡ None → last_round j < r → values_for r mon frame ≡ None
values_late s j mon r (f.Hello run version m) none late = refl
values_late s j mon r (f.Report seq border failed values) none late = refl
values_late s j mon r (f.Collect round asked) none late = refl
values_late s j mon r (f.Values round seq border values) none late =
    let awaited = accepted_values (shown_by mon j) (known_by s mon j) round seq border values (accepted_kind s j mon (f.Values round seq border values) none).1 in
    let waits = awaited_waits j mon round awaited.awaited in
    if_false (round == r) (record { mon = record { 0 = mon }; values = values; border = border }) (ne_eqb round r (λ same. omega (arith, late, same, waits.last)))
values_late s j mon r (f.Assign seq members changes) none late = refl
values_late s j mon r (f.Settled seq last places) none late = refl
values_late s j mon r f.Stop none late = refl
