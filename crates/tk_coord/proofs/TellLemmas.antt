-- What a taken frame tells.
use Rattle.std.proofs.Common.{◌≡◌, ◌≢◌, ℕ, Bool, true, false, not, ◌+◌, ◌<◌, ◌==◌, ◌&&◌, List, [], ◌∷◌, Option, Some, None, refl, sym, ap, ◌∙◌, arith}
use Rattle.std.proofs.Math.Bool.{and-false}
use Rattle.std.specs.Prelude.{ℤ, nat_lt, is_some, if◌then◌else◌}
use Rattle.std.proofs.lemmas.Bool.{eqb-true, eq-eqb, ne_eqb, lt-ltb, true≢false}
use Rattle.std.proofs.lemmas.List.{append-nil}
use Rattle.tk_base.specs.Settings.{Setup}
use Rattle.tk_base.specs.declared.ids.Mon.{Mon}
use Rattle.tk_frames.specs.declared.frame.Frame.{Frame}
use Rattle.tk_frames.specs.Carried.{is_numbered}
use Rattle.tk_frames.specs.declared.frame.Frame.TheVariants as f
use Rattle.tk_alloc.specs.declared.reported.Reported.{Reported}
use Rattle.tk_journal.specs.Readings.{Progress, assigns_sent, seqs_to, answer_of, progress_of, told as tells, assigns_on, last_round, asked_of, values_of, values_for, waits_for, is_open}
use Rattle.tk_journal.specs.Links.{link_of}
use Rattle.tk_journal.specs.Links.Passed.{Up}
use Rattle.tk_journal.specs.Laws.{IsMonitor}
use Rattle.tk_journal.specs.Deciding.{report_of, answered_report}
use Rattle.tk_journal.specs.declared.turn.TurnKind.{TurnKind}
use Rattle.tk_journal.specs.declared.turn.TurnKind.TheVariants.{Stale, Note}
use Rattle.tk_journal.specs.Turns.{kind_of, kind_of_report, is_lone_full, rounds, reported}
use Rattle.tk_journal.specs.Refusal.{refusal_of, shown_by, known_by}
use Rattle.tk_journal.specs.declared.noted.Noted.{Noted}
use Rattle.tk_journal.specs.declared.noted.Noted.TheVariants as n
use Rattle.tk_journal.proofs.Appends.{later, seqs_to-append}
use Rattle.tk_journal.proofs.Pieces.{assigns_on-sent, got_assigns, got_sent, got_members, got_round, got_asked, got_values, got_answer, got_progress}
use Rattle.tk_journal.proofs.Same.{AreSame, open_same, open_by, report_same, sent_same}
use Rattle.tk_journal.proofs.Counting.{got_count}
use Rattle.tk_journal.proofs.Accepted.{accepted_kind, accepted_values, awaited_waits, report_stays}
use Rattle.tk_journal.proofs.Firm.{got_tunings}
use Rattle.tk_journal.proofs.Orderly.{IsOrderly}
use Rattle.tk_journal.proofs.FirmTurns.{no_choice}
use Rattle.tk_coord.specs.declared.step.Statement.{Statement}
use Rattle.tk_coord.specs.declared.step.Statement.TheVariants as stated
use Rattle.tk_coord.specs.State.{kind_in, peer_at}
use Rattle.tk_coord.specs.Steps.{with_got, told_at, values_in, open_after, Tells}
use Rattle.tk_coord.proofs.PeerLemmas.{same_peer}

-- ---- the other monitors

-- Values of another monitor, and a frame without Values, add none
pub values_other : (r q : ℕ) (j : List Noted) (mon : Mon) (frame : Frame) → mon.0 == q ≡ false → values_of r q (with_got j mon frame) ≡ values_of r q j
values_other r q j mon frame apart =
    got_values r q j mon frame ∙ ap (λ (b : Bool). later (values_of r q j) (if b then values_for r q frame else None)) apart

-- a frame that has no Values for a round adds none
values_plain : (r q : ℕ) (j : List Noted) (mon : Mon) (frame : Frame) → values_for r q frame ≡ None → values_of r q (with_got j mon frame) ≡ values_of r q j
values_plain r q j mon frame none =
    got_values r q j mon frame ∙ ap (later (values_of r q j)) (no_choice (mon.0 == q) (values_for r q frame) none)

-- the last round waits as before where no Values came
pub waits_kept : (q : ℕ) (j : List Noted) (mon : Mon) (frame : Frame) → values_of (last_round j) q (with_got j mon frame) ≡ values_of (last_round j) q j
    → waits_for (last_round (with_got j mon frame)) q (with_got j mon frame) ≡ waits_for (last_round j) q j
unfolding waits_for
waits_kept q j mon frame same =
    let now = with_got j mon frame in
    ap (λ r. is_some (asked_of r q now) && not (is_some (values_of r q now))) (got_round j mon frame)
    ∙ ap (λ x. is_some x && not (is_some (values_of (last_round j) q now))) (got_asked (last_round j) q j mon frame)
    ∙ ap (λ y. is_some (asked_of (last_round j) q j) && not (is_some y)) same

-- the frame of another monitor is no answer of this one
pub answer_other : (q : ℕ) (j : List Noted) (mon : Mon) (frame : Frame) → mon.0 == q ≡ false → answer_of q (with_got j mon frame) ≡ answer_of q j
answer_other q j mon frame apart =
    got_answer q j mon frame ∙ ap (λ b. if b then (if is_numbered (assigns_sent q j) frame then Some frame else answer_of q j) else answer_of q j) apart

-- nor does it tell of its progress
progress_other : (q : ℕ) (j : List Noted) (mon : Mon) (frame : Frame) → mon.0 == q ≡ false → progress_of q (with_got j mon frame) ≡ progress_of q j
progress_other q j mon frame apart =
    got_progress q j mon frame ∙ ap (λ b. if b then tells (link_of q j) (progress_of q j) (Up frame) else progress_of q j) apart

-- the peers of other monitors stay
peer_other : (q : ℕ) (j : List Noted) (mon : Mon) (frame : Frame) → q ≢ mon.0 → peer_at (with_got j mon frame) q ≡ peer_at j q
peer_other q j mon frame other =
    let apart : mon.0 == q ≡ false = ne_eqb mon.0 q (λ e. other (sym e)) in
    let now = with_got j mon frame in
    same_peer (peer_at now q) (peer_at j q)
    (got_sent q j mon frame) (ap kind_in (answer_other q j mon frame apart)) (progress_other q j mon frame apart) (waits_kept q j mon frame (values_other (last_round j) q j mon frame apart))

-- ---- what was told to an open round

-- where the first way was not taken, only the second counts
else_same : (b : Bool) (x y z : Option Reported) → (b ≡ false → y ≡ z) → (if b then x else y) ≡ (if b then x else z)
else_same true x y z h = refl
else_same false x y z h = h refl

-- a monitor that the open round did not ask keeps the Report with which it began
report_kept : (s : Setup) (j : List Noted) (mon : Mon) (frame : Frame) (q : ℕ) → IsOrderly s j → refusal_of s j mon.0 frame ≡ None → is_open s j ≡ true → IsMonitor s q
    → values_of (last_round j) q (with_got j mon frame) ≡ values_of (last_round j) q j → report_of q (with_got j mon frame) ≡ report_of q j
unfolding report_of
report_kept s j mon frame q o none opened m same =
    let now = with_got j mon frame in
    ap (λ r. if is_some (asked_of r q now) then values_of r q now else answered_report q (answer_of q now)) (got_round j mon frame)
    ∙ ap (λ x. if is_some x then values_of (last_round j) q now else answered_report q (answer_of q now)) (got_asked (last_round j) q j mon frame)
    ∙ ap (λ y. if is_some (asked_of (last_round j) q j) then y else answered_report q (answer_of q now)) same
    ∙ else_same (is_some (asked_of (last_round j) q j)) (values_of (last_round j) q j) (answered_report q (answer_of q now)) (answered_report q (answer_of q j))
    (λ unasked. ap (answered_report q) (report_stays s j q mon frame none (o.openers opened q m unasked)))

-- a frame that is no Values opens and ends no round
pub open_stays : (s : Setup) (j : List Noted) (mon : Mon) (frame : Frame) → ((r q : ℕ) → values_for r q frame ≡ None) → is_open s (with_got j mon frame) ≡ is_open s j
open_stays s j mon frame plain =
    open_by s j (with_got j mon frame) (got_round j mon frame) (λ r q. got_asked r q j mon frame) (λ r q. values_plain r q j mon frame (plain r q))

-- ---- stale frames

-- where two journals agree, a frame between them tells nothing
same_tells : (s : Setup) (j : List Noted) (mon : Mon) (frame : Frame) → AreSame s j (with_got j mon frame) → Tells s j mon frame stated.Nothing
same_tells s j mon frame e =
    let now = with_got j mon frame in
    let peer : (q : ℕ) → peer_at now q ≡ peer_at j q = λ q.
    same_peer (peer_at now q) (peer_at j q)
    (sent_same s j now e q) (ap kind_in (e.answer q)) (e.progress q) (waits_kept q j mon frame (e.values (last_round j) q)) in
    record {
      peer = peer mon.0;
      others = λ q other. peer q;
      waiting = open_same s j now e;
      report = λ r is. cc;
      kept = λ opened q m which waits. report_same s j now e q;
    }

-- a frame that is no answer, no progress and no Values changes no reading, where its turn opens no round
nothing_told : (s : Setup) (j : List Noted) (mon : Mon) (frame : Frame) → ((q : ℕ) → answer_of q (with_got j mon frame) ≡ answer_of q j)
    → ((q : ℕ) → progress_of q (with_got j mon frame) ≡ progress_of q j) → ((r q : ℕ) → values_for r q frame ≡ None) → is_lone_full s (kind_of s j mon.0 frame) ≡ false
    → AreSame s j (with_got j mon frame)
nothing_told s j mon frame answer progress plain kind = record {
  assigns = λ q. got_assigns q j mon frame;
  seqs = λ q. seqs_to-append q j (n.Got mon frame ∷ []) ∙ append-nil (seqs_to q j);
  members = got_members j mon frame;
  answer = answer;
  progress = progress;
  round = got_round j mon frame;
  asked = λ r q. got_asked r q j mon frame;
  values = λ r q. values_plain r q j mon frame (plain r q);
  tuned = got_tunings j mon frame;
  count = got_count s j mon frame ∙ ap (λ b. if b then rounds s j + 1 else rounds s j) kind;
}

-- a choice between what is the same
if_same : {X : Type 0} (b : Bool) (x y : X) → (b ≡ true → x ≡ y) → (if b then x else y) ≡ y
if_same true x y h = h refl
if_same false x y h = refl

-- no answer comes under another number
pub answer_stale : (q : ℕ) (j : List Noted) (mon : Mon) (frame : Frame) → is_numbered (assigns_sent mon.0 j) frame ≡ false → answer_of q (with_got j mon frame) ≡ answer_of q j
answer_stale q j mon frame stale =
    got_answer q j mon frame
    ∙ if_same (mon.0 == q) (if is_numbered (assigns_sent q j) frame then Some frame else answer_of q j) (answer_of q j)
    (λ own. ap (λ b. if b then Some frame else answer_of q j) (ap (λ p. is_numbered (assigns_sent p j) frame) (sym (eqb-true mon.0 q own)) ∙ stale))

-- the turn of a stale frame opens no round
stale_kind : (s : Setup) (b : Bool) (kind : TurnKind) → b ≡ true → is_lone_full s (if b then Stale else kind) ≡ false
stale_kind s true kind is = refl
stale_kind s false kind is = cc

-- an earlier number is another
pub not_now : (seq at : ℕ) → seq < at → seq == at ≡ false
not_now seq at stale = ne_eqb seq at (λ e. omega (arith, e, stale))

-- a stale Report changes no reading
pub report_changes_nothing : (s : Setup) (j : List Noted) (mon : Mon) (seq : ℕ) (border : ℤ) (failed : List ℕ) (values : List (ℕ × ℤ)) → seq < assigns_sent mon.0 j
    → AreSame s j (with_got j mon (f.Report seq border failed values))
unfolding kind_of
report_changes_nothing s j mon seq border failed values stale =
    let frame = f.Report seq border failed values in
    nothing_told s j mon frame (λ q. answer_stale q j mon frame (not_now seq (assigns_sent mon.0 j) stale))
    (λ q. got_progress q j mon frame ∙ if_same (mon.0 == q) (progress_of q j) (progress_of q j) (λ _. refl)) (λ r q. refl)
    (stale_kind s (nat_lt seq (assigns_sent mon.0 j)) (if is_open s j then Note else kind_of_report s j (reported mon.0 border values)) (lt-ltb seq (assigns_sent mon.0 j) stale))

-- a stale Report tells nothing
pub report_stale : (s : Setup) (j : List Noted) (mon : Mon) (seq : ℕ) (border : ℤ) (failed : List ℕ) (values : List (ℕ × ℤ)) → seq < assigns_sent mon.0 j
    → Tells s j mon (f.Report seq border failed values) stated.Nothing
report_stale s j mon seq border failed values stale = same_tells s j mon (f.Report seq border failed values) (report_changes_nothing s j mon seq border failed values stale)

-- a stale Settled is no progress
stale_progress : (b c : Bool) (x y : Option Progress) → (b ≡ true → c ≡ false) → (if b then (if c then x else y) else y) ≡ y
stale_progress true c x y h = ap (λ d. if d then x else y) (h refl)
stale_progress false c x y h = refl

-- a stale Settled changes no reading
pub settled_changes_nothing : (s : Setup) (j : List Noted) (mon : Mon) (seq : ℕ) (last : Bool) (places : List ℕ) → seq < assigns_sent mon.0 j
    → AreSame s j (with_got j mon (f.Settled seq last places))
unfolding kind_of
settled_changes_nothing s j mon seq last places stale =
    let frame = f.Settled seq last places in
    let apart = not_now seq (assigns_sent mon.0 j) stale in
    nothing_told s j mon frame (λ q. answer_stale q j mon frame apart)
    (λ q. got_progress q j mon frame
    ∙ stale_progress (mon.0 == q) (seq == assigns_on (link_of q j)) (Some (record { places = places; last = last })) (progress_of q j)
    (λ own. ap (λ m. seq == m) (assigns_on-sent q j) ∙ ap (λ p. seq == assigns_sent p j) (sym (eqb-true mon.0 q own)) ∙ apart)) (λ r q. refl)
    (stale_kind s (nat_lt seq (assigns_sent mon.0 j)) Note (lt-ltb seq (assigns_sent mon.0 j) stale))

-- a stale Settled tells nothing
pub settled_stale : (s : Setup) (j : List Noted) (mon : Mon) (seq : ℕ) (last : Bool) (places : List ℕ) → seq < assigns_sent mon.0 j
    → Tells s j mon (f.Settled seq last places) stated.Nothing
settled_stale s j mon seq last places stale = same_tells s j mon (f.Settled seq last places) (settled_changes_nothing s j mon seq last places stale)

-- ---- fresh answers

-- a fresh answer is the answer from then on
pub fresh_answered : (j : List Noted) (mon : Mon) (frame : Frame) → is_numbered (assigns_sent mon.0 j) frame ≡ true → answer_of mon.0 (with_got j mon frame) ≡ Some frame
fresh_answered j mon frame fresh =
    got_answer mon.0 j mon frame
    ∙ ap (λ b. if b then (if is_numbered (assigns_sent mon.0 j) frame then Some frame else answer_of mon.0 j) else answer_of mon.0 j) (eq-eqb mon.0 mon.0 refl)
    ∙ ap (λ b. if b then Some frame else answer_of mon.0 j) fresh

-- what a frame without Values tells, by the peer of its monitor
plain_tells : (s : Setup) (j : List Noted) (mon : Mon) (frame : Frame) (told' : Statement) → IsOrderly s j → refusal_of s j mon.0 frame ≡ None → ((r q : ℕ) → values_for r q frame ≡ None)
    → values_in told' ≡ None → open_after told' (is_open s j) ≡ is_open s j → peer_at (with_got j mon frame) mon.0 ≡ told_at told' (peer_at j mon.0) → Tells s j mon frame told'
plain_tells s j mon frame told' o none plain silent stays peer = record {
  peer = peer;
  others = λ q other. peer_other q j mon frame other;
  waiting = open_stays s j mon frame plain ∙ sym stays;
  report = λ r is. cc;
  kept = λ opened q m which waits. report_kept s j mon frame q o none opened m (values_plain (last_round j) q j mon frame (plain (last_round j) q));
}

-- a fresh Report tells that it is the answer
pub report_tells : (s : Setup) (j : List Noted) (mon : Mon) (seq : ℕ) (border : ℤ) (failed : List ℕ) (values : List (ℕ × ℤ)) → IsOrderly s j
    → refusal_of s j mon.0 (f.Report seq border failed values) ≡ None → seq ≡ assigns_sent mon.0 j → Tells s j mon (f.Report seq border failed values) stated.Report
report_tells s j mon seq border failed values o none now =
    let frame = f.Report seq border failed values in
    let after = with_got j mon frame in
    plain_tells s j mon frame stated.Report o none (λ r q. refl) refl refl
    (same_peer (peer_at after mon.0) (told_at stated.Report (peer_at j mon.0))
    (got_sent mon.0 j mon frame) (ap kind_in (fresh_answered j mon frame (eq-eqb seq (assigns_sent mon.0 j) now)))
    (got_progress mon.0 j mon frame ∙ if_same (mon.0 == mon.0) (progress_of mon.0 j) (progress_of mon.0 j) (λ _. refl))
    (waits_kept mon.0 j mon frame (values_plain (last_round j) mon.0 j mon frame refl)))

-- a fresh Settled tells that it is the answer, and how far its monitor is
pub settled_tells : (s : Setup) (j : List Noted) (mon : Mon) (seq : ℕ) (last : Bool) (places : List ℕ) → IsOrderly s j
    → refusal_of s j mon.0 (f.Settled seq last places) ≡ None → seq ≡ assigns_sent mon.0 j → Tells s j mon (f.Settled seq last places) (stated.Settled (record { places = places; last = last }))
settled_tells s j mon seq last places o none now =
    let frame = f.Settled seq last places in
    let after = with_got j mon frame in
    let progress : Progress = record { places = places; last = last } in
    let fresh : seq == assigns_sent mon.0 j ≡ true = eq-eqb seq (assigns_sent mon.0 j) now in
    plain_tells s j mon frame (stated.Settled progress) o none (λ r q. refl) refl refl
    (same_peer (peer_at after mon.0) (told_at (stated.Settled progress) (peer_at j mon.0))
    (got_sent mon.0 j mon frame) (ap kind_in (fresh_answered j mon frame fresh))
    (got_progress mon.0 j mon frame
    ∙ ap (λ b. if b then (if seq == assigns_on (link_of mon.0 j) then Some progress else progress_of mon.0 j) else progress_of mon.0 j) (eq-eqb mon.0 mon.0 refl)
    ∙ ap (λ b. if b then Some progress else progress_of mon.0 j) (ap (λ m. seq == m) (assigns_on-sent mon.0 j) ∙ fresh))
    (waits_kept mon.0 j mon frame (values_plain (last_round j) mon.0 j mon frame refl)))

-- ---- Values

-- the Values of a monitor are the last that came for the last round
values_come : (s : Setup) (j : List Noted) (mon : Mon) (round seq : ℕ) (border : ℤ) (values : List (ℕ × ℤ)) → refusal_of s j mon.0 (f.Values round seq border values) ≡ None
    → values_of (last_round j) mon.0 (with_got j mon (f.Values round seq border values)) ≡ Some (reported mon.0 border values)
values_come s j mon round seq border values none =
    let frame = f.Values round seq border values in
    let awaited = accepted_values (shown_by mon.0 j) (known_by s mon.0 j) round seq border values (accepted_kind s j mon.0 frame none).1 in
    let waits = awaited_waits j mon.0 round awaited.awaited in
    got_values (last_round j) mon.0 j mon frame
    ∙ ap (λ b. later (values_of (last_round j) mon.0 j) (if b then values_for (last_round j) mon.0 frame else None)) (eq-eqb mon.0 mon.0 refl)
    ∙ ap (λ b. later (values_of (last_round j) mon.0 j) (if b then Some (reported mon.0 border values) else None)) (eq-eqb round (last_round j) waits.last)

-- it was waited for, and is waited for no more
pub values_done : (s : Setup) (j : List Noted) (mon : Mon) (round seq : ℕ) (border : ℤ) (values : List (ℕ × ℤ)) → refusal_of s j mon.0 (f.Values round seq border values) ≡ None
    → waits_for (last_round (with_got j mon (f.Values round seq border values))) mon.0 (with_got j mon (f.Values round seq border values)) ≡ false
unfolding waits_for
values_done s j mon round seq border values none =
    let frame = f.Values round seq border values in
    let now = with_got j mon frame in
    ap (λ r. is_some (asked_of r mon.0 now) && not (is_some (values_of r mon.0 now))) (got_round j mon frame)
    ∙ ap (λ y. is_some (asked_of (last_round j) mon.0 now) && not (is_some y)) (values_come s j mon round seq border values none)
    ∙ and-false (is_some (asked_of (last_round j) mon.0 now))

-- whose Values are taken was waited for
pub values_waited : (s : Setup) (j : List Noted) (mon : Mon) (round seq : ℕ) (border : ℤ) (values : List (ℕ × ℤ)) → refusal_of s j mon.0 (f.Values round seq border values) ≡ None
    → waits_for (last_round j) mon.0 j ≡ true
values_waited s j mon round seq border values none =
    let awaited = accepted_values (shown_by mon.0 j) (known_by s mon.0 j) round seq border values (accepted_kind s j mon.0 (f.Values round seq border values) none).1 in
    (awaited_waits j mon.0 round awaited.awaited).waits

-- whose Values are taken was asked
asked_there : (s : Setup) (j : List Noted) (mon : Mon) (round seq : ℕ) (border : ℤ) (values : List (ℕ × ℤ)) → refusal_of s j mon.0 (f.Values round seq border values) ≡ None
    → is_some (asked_of (last_round j) mon.0 j) ≡ true
asked_there s j mon round seq border values none =
    let awaited = accepted_values (shown_by mon.0 j) (known_by s mon.0 j) round seq border values (accepted_kind s j mon.0 (f.Values round seq border values) none).1 in
    ap is_some (awaited_waits j mon.0 round awaited.awaited).asked

-- its Values are what it reports to the round
pub values_told : (s : Setup) (j : List Noted) (mon : Mon) (round seq : ℕ) (border : ℤ) (values : List (ℕ × ℤ)) → refusal_of s j mon.0 (f.Values round seq border values) ≡ None
    → report_of mon.0 (with_got j mon (f.Values round seq border values)) ≡ Some (reported mon.0 border values)
unfolding report_of
values_told s j mon round seq border values none =
    let frame = f.Values round seq border values in
    let now = with_got j mon frame in
    ap (λ r. if is_some (asked_of r mon.0 now) then values_of r mon.0 now else answered_report mon.0 (answer_of mon.0 now)) (got_round j mon frame)
    ∙ ap (λ b. if b then values_of (last_round j) mon.0 now else answered_report mon.0 (answer_of mon.0 now))
    (ap is_some (got_asked (last_round j) mon.0 j mon frame) ∙ asked_there s j mon round seq border values none)
    ∙ values_come s j mon round seq border values none

-- what others told to it stands
pub values_kept : (s : Setup) (j : List Noted) (mon : Mon) (round seq : ℕ) (border : ℤ) (values : List (ℕ × ℤ)) (q : ℕ) → IsOrderly s j
    → refusal_of s j mon.0 (f.Values round seq border values) ≡ None → is_open s j ≡ true → IsMonitor s q → waits_for (last_round j) q j ≡ false
    → report_of q (with_got j mon (f.Values round seq border values)) ≡ report_of q j
values_kept s j mon round seq border values q o none opened m quiet =
    let frame = f.Values round seq border values in
    let other : q ≢ mon.0 = λ own. true≢false (sym (values_waited s j mon round seq border values none) ∙ ap (λ p. waits_for (last_round j) p j) (sym own) ∙ quiet) in
    report_kept s j mon frame q o none opened m (values_other (last_round j) q j mon frame (ne_eqb mon.0 q (λ e. other (sym e))))

-- the round no longer waits for whose Values are taken
values_peer : (s : Setup) (j : List Noted) (mon : Mon) (round seq : ℕ) (border : ℤ) (values : List (ℕ × ℤ)) → refusal_of s j mon.0 (f.Values round seq border values) ≡ None
    → peer_at (with_got j mon (f.Values round seq border values)) mon.0 ≡ record (peer_at j mon.0) { waits = false }
values_peer s j mon round seq border values none =
    let frame = f.Values round seq border values in
    same_peer (peer_at (with_got j mon frame) mon.0) (record (peer_at j mon.0) { waits = false })
    (got_sent mon.0 j mon frame) (ap kind_in (got_answer mon.0 j mon frame ∙ if_same (mon.0 == mon.0) (answer_of mon.0 j) (answer_of mon.0 j) (λ _. refl)))
    (got_progress mon.0 j mon frame ∙ if_same (mon.0 == mon.0) (progress_of mon.0 j) (progress_of mon.0 j) (λ _. refl))
    (values_done s j mon round seq border values none)

-- Values tell themselves while the round waits for more
pub more_tells : (s : Setup) (j : List Noted) (mon : Mon) (round seq : ℕ) (border : ℤ) (values : List (ℕ × ℤ)) → IsOrderly s j
    → refusal_of s j mon.0 (f.Values round seq border values) ≡ None → is_open s (with_got j mon (f.Values round seq border values)) ≡ true
    → Tells s j mon (f.Values round seq border values) (stated.Values (record { mon = mon; values = values; border = border }))
more_tells s j mon round seq border values o none is = record {
  peer = values_peer s j mon round seq border values none;
  others = λ q other. peer_other q j mon (f.Values round seq border values) other;
  waiting = is;
  report = λ r same. values_told s j mon round seq border values none ∙ same;
  kept = λ opened q m which quiet. values_kept s j mon round seq border values q o none opened m quiet;
}

-- the last Values of a round end it
pub last_tells : (s : Setup) (j : List Noted) (mon : Mon) (round seq : ℕ) (border : ℤ) (values : List (ℕ × ℤ)) → IsOrderly s j
    → refusal_of s j mon.0 (f.Values round seq border values) ≡ None → is_open s (with_got j mon (f.Values round seq border values)) ≡ false
    → Tells s j mon (f.Values round seq border values) stated.LastValues
last_tells s j mon round seq border values o none is = record {
  peer = values_peer s j mon round seq border values none;
  others = λ q other. peer_other q j mon (f.Values round seq border values) other;
  waiting = is;
  report = λ r same. cc;
  kept = λ opened q m which quiet. values_kept s j mon round seq border values q o none opened m quiet;
}
