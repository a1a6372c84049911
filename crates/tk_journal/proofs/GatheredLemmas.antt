-- What an open round has gathered carries the number of the last Assign to its monitor.
use Rattle.tk_frames.specs.declared.frame.Frame.TheVariants as f
use Rattle.tk_journal.specs.declared.noted.Noted.TheVariants as n
use Rattle.std.proofs.Common.{◌≡◌, ℕ, suc, zero, ◌+◌, ◌<◌, ◌==◌, Bool, true, false, List, [], ◌∷◌, ◌++◌, map, Contains, Option, Some, None, refl, sym, ap, ◌∙◌, subst, arith, append-nil}
use Rattle.std.specs.Prelude.{if◌then◌else◌}
use Rattle.std.proofs.lemmas.Bool.{true≢false, false≢true, eqb-true, eq-eqb}
use Rattle.tk_base.specs.Settings.{Setup}
use Rattle.tk_base.specs.declared.ids.Mon.{Mon}
use Rattle.tk_frames.specs.declared.frame.Frame.{Frame}
use Rattle.tk_alloc.specs.declared.reported.Reported.{Reported}
use Rattle.tk_journal.specs.Laws.{IsMonitor, IsSetUp}
use Rattle.tk_journal.specs.Legal.{Opening, IsLegal, opened}
use Rattle.tk_journal.specs.Links.{frames_from}
use Rattle.tk_journal.specs.Publishing.{closing, is_due, is_last, publication_at, stops}
use Rattle.tk_journal.specs.declared.publication.Publication.{Publication}
use Rattle.tk_journal.specs.Readings.{assigns_sent, is_open, last_round, monitors, values_of, values_for}
use Rattle.tk_journal.specs.Refusal.{refusal_of, shown_by, known_by}
use Rattle.tk_base.specs.Objects.{objects}
use Rattle.std.specs.List.{range_with_len}
use Rattle.std.proofs.lemmas.Option.{same_Some}
use Rattle.tk_journal.specs.Turns.{collects, demanded, rounds, wide_collects}
use Rattle.tk_journal.specs.declared.noted.Noted.{Noted}
use Rattle.tk_journal.proofs.Accepted.{accepted_kind, accepted_values, awaited_waits}
use Rattle.tk_journal.proofs.Appends.{later, frames_from-append}
use Rattle.tk_journal.proofs.Pieces.{got_round, got_sent, got_values}
use Rattle.tk_journal.proofs.Batches.{collects_round}
use Rattle.tk_journal.proofs.Counting.{AreCounted}
use Rattle.tk_journal.proofs.Same.{open_same, same_closing, sent_same}
use Rattle.tk_journal.proofs.Turning.{orderly_demanded}
use Rattle.tk_journal.proofs.LegalLemmas.{FrameTurn, by_parts, legal_carries, orderly_parts, orderly_tuned, tuned_round, opened_orderly, opened_closed}
use Rattle.tk_journal.proofs.LawLemmas.{one_less}
use Rattle.tk_journal.proofs.Orderly.{IsOrderly, Row, open_named, orderly_got, orderly_same, sends}
use Rattle.tk_journal.proofs.Sound.{new_values}
use Rattle.tk_journal.proofs.GrowLemmas.{Grows, grows, with_got}
use Rattle.tk_journal.proofs.GrowLemmas.Grows.{Nothing, ToOne, ToAll, Asks}

-- ---- members of joined lists

pub next_in : (A : Type 0) (y x : A) (xs : List A) → Contains xs x → Contains (y ∷ xs) x
next_in A y x xs (k, within, is) = (suc k, omega arith, is)

pub in_front : (A : Type 0) (x : A) (xs ys : List A) → Contains xs x → Contains (xs ++ ys) x
in_front A x [] ys (k, within, is) = absurd (omega arith)
in_front A x (y ∷ xs) ys (zero, within, is) = (zero, omega arith, is)
in_front A x (y ∷ xs) ys (suc k, within, is) = next_in A y x (xs ++ ys) (in_front A x xs ys (k, omega arith, is))

pub in_back : (A : Type 0) (x : A) (xs ys : List A) → Contains ys x → Contains (xs ++ ys) x
in_back A x [] ys h = h
in_back A x (y ∷ xs) ys h = next_in A y x (xs ++ ys) (in_back A x xs ys h)

pub was_from : (mon : ℕ) (before : List Noted) (from : Mon) (frame g : Frame) → Contains (frames_from mon before) g → Contains (frames_from mon (with_got before from frame)) g
was_from mon before from frame g h = subst (λ xs. Contains xs g) (sym (frames_from-append mon before (n.Got from frame ∷ []))) (in_front Frame g (frames_from mon before) (frames_from mon (n.Got from frame ∷ [])) h)

one_from : (own : Bool) (frame : Frame) → own ≡ true → Contains (if own then frame ∷ [] else []) frame
one_from true frame e = (zero, omega arith, refl)
one_from false frame e = absurd (false≢true e)

from_one : (mon : ℕ) (from : Mon) (frame : Frame) (own : Bool) → from.0 == mon ≡ own → frames_from mon (n.Got from frame ∷ []) ≡ (if own then frame ∷ [] else [])
from_one mon from frame true e = rw e refl
from_one mon from frame false e = rw e refl

pub is_from : (mon : ℕ) (before : List Noted) (from : Mon) (frame : Frame) → from.0 == mon ≡ true → Contains (frames_from mon (with_got before from frame)) frame
is_from mon before from frame own =
    subst (λ xs. Contains xs frame) (sym (frames_from-append mon before (n.Got from frame ∷ [])))
    (in_back Frame frame (frames_from mon before) (frames_from mon (n.Got from frame ∷ [])) (subst (λ xs. Contains xs frame) (sym (from_one mon from frame true own)) (one_from true frame refl)))

-- ---- what was gathered

abbrev pub Gathered : ℕ → List Noted → Type 0
Gathered mon j = (r : Reported) → values_of (last_round j) mon j ≡ Some r → Contains (frames_from mon j) (f.Values (last_round j) (assigns_sent mon j) r.border r.values)

abbrev pub HasGathered : Setup → List Noted → Type 0
HasGathered s j = is_open s j ≡ true → (mon : ℕ) → IsMonitor s mon → Gathered mon j

not_none : {A : Type 0} (x : A) → Some x ≡ None → ⊥
not_none x e = cc

-- Values for the last round are accepted only with the number of the last Assign
values_are : (s : Setup) (before : List Noted) (mon : ℕ) (frame : Frame) (r : Reported) → refusal_of s before mon frame ≡ None → values_for (last_round before) mon frame ≡ Some r
    → frame ≡ f.Values (last_round before) (assigns_sent mon before) r.border r.values
values_are s before mon (f.Values round seq border values) r none is =
    let awaited = accepted_values (shown_by mon before) (known_by s mon before) round seq border values (accepted_kind s before mon (f.Values round seq border values) none).1 in
    let waits = awaited_waits before mon round awaited.awaited in
    let same : values_for (last_round before) mon (f.Values round seq border values) ≡ Some (record { mon = record { 0 = mon }; values = values; border = border }) =
    ap (λ b. if b then Some (record { mon = record { 0 = mon }; values = values; border = border }) else None) (eq-eqb round (last_round before) waits.last) in
    let e : record { mon = record { 0 = mon }; values = values; border = border } ≡ r = same_Some (record { mon = record { 0 = mon }; values = values; border = border }) r (sym same ∙ is) in
    ap (λ q. f.Values q seq border values) waits.last ∙ ap (λ q. f.Values (last_round before) q border values) awaited.now ∙ ap (λ (x : Reported). f.Values (last_round before) (assigns_sent mon before) x.border x.values) e
values_are s before mon (f.Hello run version m) r none is = absurd (cc)
values_are s before mon (f.Report seq border failed values) r none is = absurd (cc)
values_are s before mon (f.Collect round asked) r none is = absurd (cc)
values_are s before mon (f.Assign seq members changes) r none is = absurd (cc)
values_are s before mon (f.Settled seq last places) r none is = absurd (cc)
values_are s before mon f.Stop r none is = absurd (cc)

-- a frame that is taken while a round is open
gathers : (s : Setup) (before : List Noted) (from : Mon) (frame : Frame) (mon : ℕ) (r : Reported) (own : Bool) (now : Option Reported) → from.0 == mon ≡ own → values_for (last_round before) mon frame ≡ now → refusal_of s before from.0 frame ≡ None → Gathered mon before
    → later (values_of (last_round before) mon before) (if own then now else None) ≡ Some r → Contains (frames_from mon (with_got before from frame)) (f.Values (last_round before) (assigns_sent mon before) r.border r.values)
gathers s before from frame mon r true (Some v) o w none g is =
    let e : from.0 ≡ mon = eqb-true from.0 mon o in
    let same : v ≡ r = same_Some v r is in
    let frame_is : frame ≡ f.Values (last_round before) (assigns_sent mon before) r.border r.values = values_are s before mon frame r (subst (λ q. refusal_of s before q frame ≡ None) e none) (w ∙ ap Some same) in
    subst (λ (x : Frame). Contains (frames_from mon (with_got before from frame)) x) frame_is (is_from mon before from frame o)
gathers s before from frame mon r true None o w none g is = was_from mon before from frame (f.Values (last_round before) (assigns_sent mon before) r.border r.values) (g r is)
gathers s before from frame mon r false now o w none g is = was_from mon before from frame (f.Values (last_round before) (assigns_sent mon before) r.border r.values) (g r is)

pub got_gathered : (s : Setup) (before : List Noted) (from : Mon) (frame : Frame) (mon : ℕ) → refusal_of s before from.0 frame ≡ None → Gathered mon before → Gathered mon (with_got before from frame)
got_gathered s before from frame mon none g r is =
    let now = with_got before from frame in
    let round = got_round before from frame in
    let values : later (values_of (last_round before) mon before) (if from.0 == mon then values_for (last_round before) mon frame else None) ≡ Some r =
    sym (got_values (last_round before) mon before from frame) ∙ ap (λ q. values_of q mon now) (sym round) ∙ is in
    let there = gathers s before from frame mon r (from.0 == mon) (values_for (last_round before) mon frame) refl refl none g values in
    subst (λ q. Contains (frames_from mon now) (f.Values q (assigns_sent mon now) r.border r.values)) (sym round)
    (subst (λ q. Contains (frames_from mon now) (f.Values (last_round before) q r.border r.values)) (sym (got_sent mon before from frame)) there)

-- nothing was gathered yet by a new round
asked_gathered : (s : Setup) (now : List Noted) (round : ℕ) (asked : List ℕ) (q : ℕ) (mons : List ℕ) (mon : ℕ) → AreCounted s now → last_round now < round → Gathered mon (now ++ collects round asked (q ∷ mons))
asked_gathered s now round asked q mons mon c new r is =
    let last = collects_round now round asked q mons in
    let none : values_of round mon (now ++ collects round asked (q ∷ mons)) ≡ None = new_values s now round asked (q ∷ mons) mon c new in
    let same = ap (λ x. values_of x mon (now ++ collects round asked (q ∷ mons))) last in
    absurd (not_none r (sym is ∙ same ∙ none))

-- Assigns open nothing
sent_closed : (s : Setup) (before : List Noted) (from : Mon) (frame : Frame) (members : List ℕ) (rows : List Row) → is_open s (with_got before from frame) ≡ false → is_open s (with_got before from frame ++ sends (with_got before from frame) members rows) ≡ false
sent_closed s before from frame members rows closed =
    let now = with_got before from frame in open_named s now (λ (d : Row). d.0) (λ d. assigns_sent d.0 now + 1) members (λ d. d.1) rows ∙ closed

grown_gathered : (s : Setup) (before : List Noted) (from : Mon) (frame : Frame) (after : List Noted) → Grows s before from frame after → refusal_of s before from.0 frame ≡ None → IsOrderly s (with_got before from frame) → HasGathered s before
    → HasGathered s after
grown_gathered s before from frame after (Nothing e same resting) none o h opened mon m =
    let was : is_open s before ≡ true = sym same ∙ sym (ap (is_open s) e) ∙ opened in
    subst (Gathered mon) (sym e) (got_gathered s before from frame mon none (h was mon m))
grown_gathered s before from frame after (ToOne members row border failed values fresh' node was closed e) none o h opened mon m = absurd (true≢false (sym opened ∙ ap (is_open s) e ∙ sent_closed s before from frame members (row ∷ []) closed))
grown_gathered s before from frame after (ToAll members rows cause nodes closed e) none o h opened mon m = absurd (true≢false (sym opened ∙ ap (is_open s) e ∙ sent_closed s before from frame members rows closed))
grown_gathered s before from frame after (Asks round asked q mons rising closed new e opened') none o h opened mon m = subst (Gathered mon) (sym e) (asked_gathered s (with_got before from frame) round asked q mons mon o.counted new)

pub record IsAwaiting (s : Setup) (j : List Noted) : Type 0 where
  pub order : IsOrderly s j
  pub gathered : HasGathered s j

same_from : (mon : ℕ) (xs : List Noted) (j : List Noted) → frames_from mon xs ≡ [] → frames_from mon (j ++ xs) ≡ frames_from mon j
same_from mon xs j none = frames_from-append mon j xs ∙ ap (λ ys. frames_from mon j ++ ys) none ∙ append-nil (frames_from mon j)

pub awaiting_parts : (s : Setup) (k : ℕ) → s.monitors ≡ suc k → ((j : List Noted) (mon : ℕ) → frames_from mon (closing s j) ≡ []) → FrameTurn s (IsAwaiting s)
awaiting_parts s k some quiet = record {
  demands = λ before from frame range none h. record {
    order = orderly_demanded s before from frame k some range none h.order;
    gathered = grown_gathered s before from frame (with_got before from frame ++ demanded s before from.0 frame) (grows s before from frame k some range none h.order) none (orderly_got s before from frame none h.order) h.gathered;
  };
  closes = λ j h. record {
    order = orderly_same s j (j ++ closing s j) (same_closing s j) h.order;
    gathered = λ opened mon m r is.
        let e = same_closing s j in
        let old = h.gathered (sym (open_same s j (j ++ closing s j) e) ∙ opened) mon m r (sym (e.values (last_round j) mon) ∙ ap (λ q. values_of q mon (j ++ closing s j)) (sym e.round) ∙ is) in
        subst (λ xs. Contains xs (f.Values (last_round (j ++ closing s j)) (assigns_sent mon (j ++ closing s j)) r.border r.values)) (sym (same_from mon (closing s j) j (quiet j mon)))
        (subst (λ q. Contains (frames_from mon j) (f.Values q (assigns_sent mon (j ++ closing s j)) r.border r.values)) (sym e.round)
        (subst (λ q. Contains (frames_from mon j) (f.Values (last_round j) q r.border r.values)) (sym (sent_same s j (j ++ closing s j) e mon)) old));
  };
  tunes = λ before q epsilon accepted h. record {
    order = (orderly_parts s k some).tunes before q epsilon accepted h.order;
    gathered = λ opened mon m.
        let mid = before ++ n.Tuned q epsilon ∷ [] in
        let o = orderly_tuned s before q epsilon h.order in
        let list : mid ++ wide_collects s (rounds s before + 1) ≡ mid ++ collects (rounds s before + 1) (objects s.objects) (1 ∷ range_with_len (1 + 1) k) = ap (λ xs. mid ++ collects (rounds s before + 1) (objects s.objects) xs) (ap (range_with_len 1) some) in
        subst (Gathered mon) (sym list) (asked_gathered s mid (rounds s before + 1) (objects s.objects) 1 (range_with_len (1 + 1) k) mon o.counted (let t = tuned_round before q epsilon in let l = h.order.counted.last in omega (arith, t, l)));
  };
}

-- a publication and Stops take nothing
stops_quiet : (mon : ℕ) (mons : List ℕ) → frames_from mon (map (λ m. n.Sent (record { 0 = m }) f.Stop) mons) ≡ []
stops_quiet mon [] = refl
stops_quiet mon (m ∷ mons) = stops_quiet mon mons

closing_quiet : (s : Setup) (mon : ℕ) (due last : Bool) (p : Publication) → frames_from mon (if due then n.Published p ∷ (if last then stops s else []) else []) ≡ []
closing_quiet s mon true true p = stops_quiet mon (monitors s)
closing_quiet s mon true false p = refl
closing_quiet s mon false last p = refl

pub quiet_closing : (s : Setup) (j : List Noted) (mon : ℕ) → frames_from mon (closing s j) ≡ []
unfolding closing
quiet_closing s j mon = closing_quiet s mon (is_due s j) (is_last s j) (publication_at s j)

pub first_awaiting : (o : Opening) (k : ℕ) → o.settings.monitors ≡ suc k → IsSetUp o → IsAwaiting o.settings (opened o)
first_awaiting o k some set = record { order = opened_orderly o k some set.factors; gathered = λ is. absurd (true≢false (sym is ∙ opened_closed o)) }

pub gathered_are_fresh : (o : Opening) (j : List Noted) (mon : ℕ) → IsSetUp o → IsLegal o j → IsMonitor o.settings mon → is_open o.settings j ≡ true → Gathered mon j
gathered_are_fresh o j mon set legal m opened =
    let s = o.settings in
    let k = one_less s.monitors set.limits.some_monitor in
    (legal_carries o (IsAwaiting s) (by_parts s (IsAwaiting s) (awaiting_parts s k.0 k.1 (quiet_closing s)))
    (record { order = opened_orderly o k.0 k.1 set.factors; gathered = λ is. absurd (true≢false (sym is ∙ opened_closed o)) }) j legal).gathered opened mon m
