-- Before each further Assign to a monitor, the coordinator has a frame of it under the number before.
use Rattle.tk_frames.specs.declared.frame.Frame.TheVariants as f
use Rattle.tk_journal.specs.Sending.{WasHeard}
use Rattle.tk_journal.specs.declared.noted.Noted.TheVariants as n
use Rattle.std.proofs.Common.{◌≡◌, ℕ, suc, zero, ◌+◌, ◌≤◌, ◌==◌, Bool, true, false, List, [], ◌∷◌, ◌++◌, length, map, Contains, Option, Some, None, refl, sym, ap, ◌∙◌, subst, arith, append-nil, inl, inr}
use Rattle.std.specs.Prelude.{ℤ, filter, filter_map, is_some, if◌then◌else◌, ◌⊎◌}
use Rattle.std.specs.List.{range_with_len, enumerate_from, cons_option}
use Rattle.std.proofs.lemmas.Bool.{cases_eq, eq-eqb, ne_eqb}
use Rattle.std.proofs.lemmas.List.{length-append}
use Rattle.std.proofs.lemmas.Map.Views.{exact_unsigned_eq}
use Rattle.tk_base.specs.Objects.{objects}
use Rattle.tk_base.specs.Settings.{Setup}
use Rattle.tk_base.specs.declared.ids.Mon.{Mon}
use Rattle.tk_frames.specs.Assigns.{assign_in}
use Rattle.tk_frames.specs.declared.frame.Frame.{Frame}
use Rattle.tk_frames.specs.Carried.{seq_in, is_numbered}
use Rattle.tk_journal.specs.Laws.{IsMonitor, IsSetUp}
use Rattle.tk_journal.specs.Legal.{Opening, IsLegal, opened, inputs_of}
use Rattle.tk_journal.specs.Links.{Passed, frames_from, link_of}
use Rattle.tk_journal.specs.Links.Passed.{Up, Down}
use Rattle.tk_journal.specs.Walks.{walk}
use Rattle.tk_journal.specs.Publishing.{closing}
use Rattle.tk_journal.specs.Readings.{assigns_sent, assigns_to, assigns_on, answer_of, answered, is_open, last_round, asked_of, values_of, monitors, waits_for}
use Rattle.tk_journal.specs.Refusal.{refusal_of, is_report}
use Rattle.tk_journal.specs.Turns.{collects, demanded, rounds, wide_collects}
use Rattle.tk_journal.specs.declared.noted.Noted.{Noted}
use Rattle.tk_journal.proofs.Answering.{answer_fresh}
use Rattle.tk_journal.proofs.Appends.{frames_from-append}
use Rattle.tk_journal.proofs.Pieces.{batch_from, got_sent}
use Rattle.tk_journal.proofs.Batches.{named, named_assigns, plain_assigns}
use Rattle.tk_journal.proofs.Naming.{one_row}
use Rattle.tk_journal.proofs.Rounding.{openers_kept, values_there}
use Rattle.tk_journal.proofs.Reports.{closed_waits}
use Rattle.tk_journal.proofs.Same.{same_closing, sent_same}
use Rattle.tk_journal.proofs.Orderly.{IsOrderly, Row, sends}
use Rattle.tk_journal.proofs.LegalLemmas.{FrameTurn, by_parts, legal_carries, numbered_factors, tuned_assigns}
use Rattle.tk_journal.proofs.LawLemmas.{one_less}
use Rattle.tk_journal.specs.Shapes.{IsFreshReport}
use Rattle.tk_journal.proofs.GrowLemmas.{Cause, Grows, grows, with_got}
use Rattle.tk_journal.proofs.GrowLemmas.Cause.{ByReport, ByValues}
use Rattle.tk_journal.proofs.GrowLemmas.Grows.{Nothing, ToOne, ToAll, Asks}
use Rattle.tk_journal.proofs.GatheredLemmas.{Gathered, HasGathered, IsAwaiting, awaiting_parts, first_awaiting, got_gathered, is_from, next_in, quiet_closing, was_from}

-- ---- a current answer was got

unfoldable pub up_in : Passed → Option Frame
up_in (Up frame) = Some frame
up_in (Down frame) = None

unfoldable pub ups : List Passed → List Frame
ups link = filter_map up_in link

kept_or_new : (b : Bool) (frame g : Frame) (answer : Option Frame) → (if b then Some frame else answer) ≡ Some g → (answer ≡ Some g) ⊎ (frame ≡ g)
kept_or_new true frame g answer is = inr (cc)
kept_or_new false frame g answer is = inl is

cleared_or_kept : (b : Bool) (g : Frame) (answer : Option Frame) → (if b then None else answer) ≡ Some g → answer ≡ Some g
cleared_or_kept true g answer is = cc
cleared_or_kept false g answer is = is

walked : (front : List Passed) (answer : Option Frame) (link : List Passed) (g : Frame) → walk answered front answer link ≡ Some g → (answer ≡ Some g) ⊎ Contains (ups link) g
unfolding ups up_in
walked front answer [] g is = inl is
walked front answer (Up frame ∷ link) g is = elim (walked (front ++ Up frame ∷ []) (answered front answer (Up frame)) link g is) [
  | inl old ↦ elim (kept_or_new (is_numbered (assigns_on front) frame) frame g answer old) [ inl older ↦ inl older | inr new ↦ inr (zero, omega arith, new) ]
  | inr later ↦ inr (next_in Frame frame g (filter_map up_in link) later)
]
walked front answer (Down frame ∷ link) g is = elim (walked (front ++ Down frame ∷ []) (answered front answer (Down frame)) link g is) [
  | inl old ↦ inl (cleared_or_kept (is_some (assign_in frame)) g answer old)
  | inr later ↦ inr later
]

-- a frame that goes up is one more of those
pub up_one : (own : Bool) (frame : Frame) (link : List Passed) (frames : List Frame) → ups link ≡ frames → ups (cons_option (if own then Some (Up frame) else None) link) ≡ cons_option (if own then Some frame else None) frames
unfolding ups up_in
up_one true frame link frames e = ap (λ xs. frame ∷ xs) e
up_one false frame link frames e = e

-- a frame that goes down adds nothing to those that went up
pub down_one : (own : Bool) (frame : Frame) (link : List Passed) → ups (cons_option (if own then Some (Down frame) else None) link) ≡ ups link
unfolding ups up_in
down_one true frame link = refl
down_one false frame link = refl

-- what went up on a link is what the journal has from the monitor
pub ups_are : (mon : ℕ) (j : List Noted) → ups (link_of mon j) ≡ frames_from mon j
unfolding ups
ups_are mon [] = refl
ups_are mon (n.Got from frame ∷ j) = up_one (from.0 == mon) frame (link_of mon j) (frames_from mon j) (ups_are mon j)
ups_are mon (n.Sent to frame ∷ j) = down_one (to.0 == mon) frame (link_of mon j) ∙ ups_are mon j
ups_are mon (n.Published publication ∷ j) = ups_are mon j
ups_are mon (n.Tuned k epsilon ∷ j) = ups_are mon j

pub answer_was_got : (mon : ℕ) (j : List Noted) (g : Frame) → answer_of mon j ≡ Some g → Contains (frames_from mon j) g
unfolding answer_of
answer_was_got mon j g is = elim (walked [] None (link_of mon j) g is) [
  | inl none ↦ absurd (cc)
  | inr there ↦ subst (λ xs. Contains xs g) (ups_are mon j) there
]

-- ---- heard

abbrev pub HasHeard : Setup → List Noted → Type 0
HasHeard s j = (mon : ℕ) → IsMonitor s mon → (number : ℕ) → 1 ≤ number → assigns_sent mon j ≡ number + 1 → WasHeard mon j number

heard_in : (mon : ℕ) (a b : List Noted) (number : ℕ) → ((g : Frame) → Contains (frames_from mon a) g → Contains (frames_from mon b) g) → WasHeard mon a number → WasHeard mon b number
heard_in mon a b number more h = record { frame = h.frame; among = more h.frame h.among; carries = h.carries }

numbered_answer : (seq : ℕ) (frame : Frame) → is_numbered seq frame ≡ true → seq_in frame ≡ Some seq
numbered_answer seq (f.Report s border failed values) is = ap Some (exact_unsigned_eq s seq is)
numbered_answer seq (f.Settled s last places) is = ap Some (exact_unsigned_eq s seq is)
numbered_answer seq (f.Hello run version mon) is = absurd (cc)
numbered_answer seq (f.Collect round asked) is = absurd (cc)
numbered_answer seq (f.Values round s border values) is = absurd (cc)
numbered_answer seq (f.Assign s members changes) is = absurd (cc)
numbered_answer seq f.Stop is = absurd (cc)

heard_answer : (mon : ℕ) (j : List Noted) (answer : Option Frame) → answer_of mon j ≡ answer → is_report answer ≡ true → WasHeard mon j (assigns_sent mon j)
heard_answer mon j None e is = absurd (cc)
heard_answer mon j (Some g) e is = record { frame = g; among = answer_was_got mon j g e; carries = numbered_answer (assigns_sent mon j) g (answer_fresh mon j g e) }

-- how many Assigns a batch sends
sent_to_one : (mon : ℕ) (now : List Noted) (members : List ℕ) (rows : List Row) (d : Row) → filter (λ (e : Row). e.0 == mon) rows ≡ d ∷ [] → assigns_sent mon (now ++ sends now members rows) ≡ assigns_sent mon now + 1
unfolding assigns_sent
sent_to_one mon now members rows d alone =
    ap length (named_assigns mon now (λ (e : Row). e.0) (λ e. assigns_sent e.0 now + 1) members (λ e. e.1) rows ∙ ap (λ (es : List Row). assigns_to mon now ++ map (λ e. record { members = members; changes = e.1 }) es) alone)
    ∙ length-append (assigns_to mon now) (record { members = members; changes = d.1 } ∷ [])

sent_to_none : (mon : ℕ) (now : List Noted) (members : List ℕ) (rows : List Row) → filter (λ (e : Row). e.0 == mon) rows ≡ [] → assigns_sent mon (now ++ sends now members rows) ≡ assigns_sent mon now
unfolding assigns_sent
sent_to_none mon now members rows none =
    ap length (named_assigns mon now (λ (e : Row). e.0) (λ e. assigns_sent e.0 now + 1) members (λ e. e.1) rows ∙ ap (λ (es : List Row). assigns_to mon now ++ map (λ e. record { members = members; changes = e.1 }) es) none ∙ append-nil (assigns_to mon now))

rows_from : (mon : ℕ) (now : List Noted) (members : List ℕ) (rows : List Row) (g : Frame) → Contains (frames_from mon now) g → Contains (frames_from mon (now ++ sends now members rows)) g
rows_from mon now members rows g h =
    subst (λ xs. Contains xs g) (sym (frames_from-append mon now (sends now members rows) ∙ ap (λ ys. frames_from mon now ++ ys) (batch_from mon (λ (e : Row). e.0) (named (λ e. assigns_sent e.0 now + 1) members (λ e. e.1)) rows) ∙ append-nil (frames_from mon now))) h

plain_sent : (mon : ℕ) (now : List Noted) (round : ℕ) (asked mons : List ℕ) → assigns_sent mon (now ++ collects round asked mons) ≡ assigns_sent mon now
unfolding assigns_sent
plain_sent mon now round asked mons = ap length (plain_assigns mon now (λ m. m) (λ _. f.Collect round asked) mons (λ _. refl))

asks_from : (mon : ℕ) (now : List Noted) (round : ℕ) (asked mons : List ℕ) (g : Frame) → Contains (frames_from mon now) g → Contains (frames_from mon (now ++ collects round asked mons)) g
asks_from mon now round asked mons g h =
    subst (λ xs. Contains xs g) (sym (frames_from-append mon now (collects round asked mons) ∙ ap (λ ys. frames_from mon now ++ ys) (batch_from mon (λ (q : ℕ). q) (λ _. f.Collect round asked) mons) ∙ append-nil (frames_from mon now))) h

-- the Report that came is under the number of the last Assign
heard_report : (s : Setup) (before : List Noted) (from : Mon) (frame : Frame) (border : ℤ) (failed : List ℕ) (values : List (ℕ × ℤ)) (mon : ℕ) → IsFreshReport s before from frame border failed values → from.0 ≡ mon
    → WasHeard mon (with_got before from frame) (assigns_sent mon (with_got before from frame))
heard_report s before from frame border failed values mon r own = record {
  frame = frame;
  among = is_from mon before from frame (eq-eqb from.0 mon own);
  carries = ap seq_in r.is ∙ ap Some (ap (λ q. assigns_sent q before) own ∙ sym (got_sent mon before from frame));
}

-- whoever was asked has given Values, whoever was not stands with a Report
heard_round : (s : Setup) (now : List Noted) (mon : ℕ) (asked : Bool) → IsMonitor s mon → is_open s now ≡ false → Gathered mon now → (is_some (asked_of (last_round now) mon now) ≡ false → is_report (answer_of mon now) ≡ true)
    → is_some (asked_of (last_round now) mon now) ≡ asked → WasHeard mon now (assigns_sent mon now)
unfolding waits_for
heard_round s now mon true m closed g others e =
    let r = values_there (asked_of (last_round now) mon now) (values_of (last_round now) mon now) (closed_waits s now closed mon m) e in
    record { frame = f.Values (last_round now) (assigns_sent mon now) r.0.border r.0.values; among = g r.0 r.1; carries = refl }
heard_round s now mon false m closed g others e = heard_answer mon now (answer_of mon now) refl (others e)

heard_cause : (s : Setup) (before : List Noted) (from : Mon) (frame : Frame) (mon : ℕ) → IsMonitor s from.0 → IsMonitor s mon → refusal_of s before from.0 frame ≡ None → IsOrderly s before → HasGathered s before → is_open s (with_got before from frame) ≡ false
    → Cause s before from frame → WasHeard mon (with_got before from frame) (assigns_sent mon (with_got before from frame))
heard_cause s before from frame mon range m none o g closed (ByReport border failed values one r) =
    heard_report s before from frame border failed values mon r (let a = range.from_one in let b = range.within in let c = m.from_one in let d = m.within in omega (arith, a, b, c, d, one))
heard_cause s before from frame mon range m none o g closed (ByValues v) =
    let now = with_got before from frame in
    heard_round s now mon (is_some (asked_of (last_round now) mon now)) m closed (got_gathered s before from frame mon none (g v.opened mon m)) (openers_kept s before from frame none v.opened o.openers mon m) refl

numbers_agree : (a b number : ℕ) → a ≡ b + 1 → a ≡ number + 1 → b ≡ number
numbers_agree a b number e g = omega (arith, e, g)

grown_heard : (s : Setup) (before : List Noted) (from : Mon) (frame : Frame) (after : List Noted) → Grows s before from frame after → IsMonitor s from.0 → refusal_of s before from.0 frame ≡ None → IsOrderly s before → HasGathered s before → HasHeard s before → HasHeard s after
grown_heard s before from frame after (Nothing e same resting) range none o g h mon m number some is =
    subst (λ j. WasHeard mon j number) (sym e)
    (heard_in mon before (with_got before from frame) number (λ x there. was_from mon before from frame x there) (h mon m number some (sym (got_sent mon before from frame) ∙ ap (assigns_sent mon) (sym e) ∙ is)))
grown_heard s before from frame after (ToOne members row border failed values fresh' node was closed e) range none o g h mon m number some is =
    let now = with_got before from frame in
    elim (cases_eq row.0 mon) [
      | inl own ↦
          let sent = sent_to_one mon now members (row ∷ []) row (ap (λ b. if b then row ∷ [] else []) (eq-eqb row.0 mon own)) in
          let number_is : assigns_sent mon now ≡ number = numbers_agree (assigns_sent mon after) (assigns_sent mon now) number (ap (assigns_sent mon) e ∙ sent) is in
          subst (λ j. WasHeard mon j number) (sym e)
          (heard_in mon now (now ++ sends now members (row ∷ [])) number (λ x there. rows_from mon now members (row ∷ []) x there) (subst (λ q. WasHeard mon now q) number_is (heard_report s before from frame border failed values mon fresh' (sym node ∙ own))))
      | inr other ↦
          let sent = sent_to_none mon now members (row ∷ []) (ap (λ b. if b then row ∷ [] else []) (ne_eqb row.0 mon other)) in
          subst (λ j. WasHeard mon j number) (sym e)
          (heard_in mon before (now ++ sends now members (row ∷ [])) number (λ x there. rows_from mon now members (row ∷ []) x (was_from mon before from frame x there))
          (h mon m number some (sym (got_sent mon before from frame) ∙ sym sent ∙ ap (assigns_sent mon) (sym e) ∙ is)))
    ]
grown_heard s before from frame after (ToAll members rows cause nodes closed e) range none o g h mon m number some is =
    let now = with_got before from frame in
    let row = one_row (λ (d : Row). d.0) 1 s.monitors rows mon nodes m.from_one (let w = m.within in omega (arith, w)) in
    let sent = sent_to_one mon now members rows row.row row.alone in
    let number_is : assigns_sent mon now ≡ number = numbers_agree (assigns_sent mon after) (assigns_sent mon now) number (ap (assigns_sent mon) e ∙ sent) is in
    subst (λ j. WasHeard mon j number) (sym e)
    (heard_in mon now (now ++ sends now members rows) number (λ x there. rows_from mon now members rows x there) (subst (λ q. WasHeard mon now q) number_is (heard_cause s before from frame mon range m none o g closed cause)))
grown_heard s before from frame after (Asks round asked q mons rising closed new e opened') range none o g h mon m number some is =
    let now = with_got before from frame in
    let sent : assigns_sent mon (now ++ collects round asked (q ∷ mons)) ≡ assigns_sent mon now = plain_sent mon now round asked (q ∷ mons) in
    subst (λ j. WasHeard mon j number) (sym e)
    (heard_in mon before (now ++ collects round asked (q ∷ mons)) number (λ x there. asks_from mon now round asked (q ∷ mons) x (was_from mon before from frame x there))
    (h mon m number some (sym (got_sent mon before from frame) ∙ sym sent ∙ ap (assigns_sent mon) (sym e) ∙ is)))

-- ---- every legal journal

record IsHearing (s : Setup) (j : List Noted) : Type 0 where
  awaiting : IsAwaiting s j
  heard : HasHeard s j

tuned_from : (mon : ℕ) (before : List Noted) (q : ℕ) (epsilon : ℤ) (g : Frame) → Contains (frames_from mon before) g → Contains (frames_from mon (before ++ n.Tuned q epsilon ∷ [])) g
tuned_from mon before q epsilon g h = subst (λ xs. Contains xs g) (sym (frames_from-append mon before (n.Tuned q epsilon ∷ []) ∙ append-nil (frames_from mon before))) h

tuned_number : (mon : ℕ) (before : List Noted) (q : ℕ) (epsilon : ℤ) → assigns_sent mon (before ++ n.Tuned q epsilon ∷ []) ≡ assigns_sent mon before
unfolding assigns_sent
tuned_number mon before q epsilon = ap length (tuned_assigns mon before q epsilon)

hearing_parts : (s : Setup) (k : ℕ) → s.monitors ≡ suc k → FrameTurn s (IsHearing s)
hearing_parts s k some = record {
  demands = λ before from frame range none h. record {
    awaiting = (awaiting_parts s k some (quiet_closing s)).demands before from frame range none h.awaiting;
    heard = grown_heard s before from frame (with_got before from frame ++ demanded s before from.0 frame) (grows s before from frame k some range none h.awaiting.order) range none h.awaiting.order h.awaiting.gathered h.heard;
  };
  closes = λ j h. record {
    awaiting = (awaiting_parts s k some (quiet_closing s)).closes j h.awaiting;
    heard = λ mon m number low is.
        heard_in mon j (j ++ closing s j) number
        (λ g there. subst (λ xs. Contains xs g) (sym (frames_from-append mon j (closing s j) ∙ ap (λ ys. frames_from mon j ++ ys) (quiet_closing s j mon) ∙ append-nil (frames_from mon j))) there)
        (h.heard mon m number low (sym (sent_same s j (j ++ closing s j) (same_closing s j) mon) ∙ is));
  };
  tunes = λ before q epsilon accepted h. record {
    awaiting = (awaiting_parts s k some (quiet_closing s)).tunes before q epsilon accepted h.awaiting;
    heard = λ mon m number low is.
        let mid = before ++ n.Tuned q epsilon ∷ [] in
        heard_in mon before (mid ++ wide_collects s (rounds s before + 1)) number
        (λ g there. asks_from mon mid (rounds s before + 1) (objects s.objects) (monitors s) g (tuned_from mon before q epsilon g there))
        (h.heard mon m number low (sym (tuned_number mon before q epsilon) ∙ sym (plain_sent mon mid (rounds s before + 1) (objects s.objects) (monitors s)) ∙ is));
  };
}

-- at the beginning one Assign was sent to each
pub first_sent : (o : Opening) (mon : ℕ) → IsSetUp o → IsMonitor o.settings mon → assigns_sent mon (opened o) ≡ 1
unfolding assigns_sent
first_sent o mon set m =
    let rows = enumerate_from 1 o.factors in
    let row = one_row (λ (p : ℕ × List (ℕ × ℤ)). p.0) 1 o.settings.monitors rows mon (numbered_factors 1 o.factors ∙ ap (range_with_len 1) set.factors) m.from_one (let w = m.within in omega (arith, w)) in
    ap length (named_assigns mon [] (λ (p : ℕ × List (ℕ × ℤ)). p.0) (λ _. 1) o.members (λ p. p.1) rows ∙ ap (λ (es : List (ℕ × List (ℕ × ℤ))). map (λ e. record { members = o.members; changes = e.1 }) es) row.alone)

pub heard_before : (o : Opening) (j : List Noted) (mon number : ℕ) → IsSetUp o → IsLegal o j → IsMonitor o.settings mon → 1 ≤ number → assigns_sent mon j ≡ number + 1 → WasHeard mon j number
heard_before o j mon number set legal m low is =
    let s = o.settings in
    let k = one_less s.monitors set.limits.some_monitor in
    (legal_carries o (IsHearing s) (by_parts s (IsHearing s) (hearing_parts s k.0 k.1))
    (record { awaiting = first_awaiting o k.0 k.1 set; heard = λ q r number' low' is'. absurd (let e = first_sent o q set r in omega (arith, e, is', low')) }) j legal).heard mon m number low is

-- a journal without inputs has no frame of any monitor
pub no_input : (mon : ℕ) (xs : List Noted) → inputs_of xs ≡ [] → frames_from mon xs ≡ []
no_input mon [] none = refl
no_input mon (n.Got from frame ∷ xs) none = absurd (cc)
no_input mon (n.Sent to frame ∷ xs) none = no_input mon xs none
no_input mon (n.Published p ∷ xs) none = no_input mon xs none
no_input mon (n.Tuned k epsilon ∷ xs) none = absurd (cc)
