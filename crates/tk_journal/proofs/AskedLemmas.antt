-- A monitor was sent as many Collects as it gave Values, and one more while the last round waits for it.
use Rattle.tk_frames.specs.declared.frame.Frame.TheVariants as f
use Rattle.tk_journal.specs.declared.noted.Noted.TheVariants as n
use Rattle.tk_journal.specs.declared.refusal.RetuneRefusal.TheVariants as retune
use Rattle.std.proofs.Common.{◌≡◌, ℕ, suc, ◌+◌, ◌<◌, ◌==◌, ◌&&◌, ◌||◌, Bool, true, false, not, List, [], ◌∷◌, ◌++◌, map, Option, Some, None, refl, sym, ap, ◌∙◌, subst, arith, inl, inr}
use Rattle.std.specs.Prelude.{ℤ, is_some, if◌then◌else◌}
use Rattle.std.specs.List.{range_with_len, enumerate_from, cons_option}
use Rattle.std.proofs.lemmas.Bool.{cases_Bool, true≢false, eqb-true, eq-eqb}
use Rattle.std.proofs.Math.Bool.{and-false}
use Rattle.tk_base.specs.Objects.{objects, is_in}
use Rattle.tk_base.specs.Settings.{Setup}
use Rattle.tk_base.specs.declared.ids.Mon.{Mon}
use Rattle.tk_base.proofs.OptionLemmas.{if_none}
use Rattle.tk_border.proofs.RisingLemmas.{Rises, is_in-low}
use Rattle.tk_frames.specs.declared.frame.Frame.{Frame}
use Rattle.tk_alloc.specs.declared.reported.Reported.{Reported}
use Rattle.tk_journal.specs.Laws.{IsMonitor, IsSetUp}
use Rattle.tk_journal.specs.Legal.{Opening, IsLegal, opened}
use Rattle.tk_journal.specs.Links.{frames_from, frames_to}
use Rattle.tk_journal.specs.Publishing.{closing, is_due, is_last, publication_at, stops}
use Rattle.tk_journal.specs.Readings.{assigns_sent, is_open, last_round, asked_of, values_of, values_for, waits_for, monitors, is_stopped}
use Rattle.tk_journal.specs.Refusal.{refusal_of, retune_refusal_of, shown_by, known_by}
use Rattle.tk_journal.specs.Turns.{collects, demanded, rounds, wide_collects}
use Rattle.tk_journal.specs.declared.noted.Noted.{Noted}
use Rattle.tk_journal.specs.declared.publication.Publication.{Publication}
use Rattle.tk_journal.proofs.Accepted.{accepted_kind, accepted_values, awaited_waits}
use Rattle.tk_journal.proofs.Appends.{later, frames_from-append, frames_to-append, asked_of-append, values_of-append}
use Rattle.tk_journal.proofs.Pieces.{batch, batch_from, batch_values, got_round, got_asked, got_values}
use Rattle.tk_journal.proofs.Batches.{named, collects_round}
use Rattle.tk_journal.proofs.Counting.{AreCounted, named_round, named_asked}
use Rattle.tk_journal.proofs.Reports.{closed_waits}
use Rattle.tk_journal.proofs.Same.{same_closing, waits_by}
use Rattle.tk_journal.proofs.Sound.{new_asked, new_values}
use Rattle.tk_journal.proofs.Turning.{orderly_demanded}
use Rattle.tk_journal.proofs.Orderly.{IsOrderly, Row, sends, orderly_got, orderly_same}
use Rattle.tk_journal.proofs.LegalLemmas.{FrameTurn, by_parts, legal_carries, orderly_parts, orderly_tuned, tuned_round, tuned_waits, opened_orderly, opened_closed}
use Rattle.tk_journal.proofs.LawLemmas.{one_less}
use Rattle.tk_frames.specs.Carried.{tally, is_collect, is_values}
use Rattle.tk_journal.specs.Tally.{collects_to, values_from}
use Rattle.tk_journal.proofs.GrowLemmas.{Grows, grows, with_got, range_rises}
use Rattle.tk_journal.proofs.GrowLemmas.Grows.{Nothing, ToOne, ToAll, Asks}
use Rattle.tk_journal.proofs.GatheredLemmas.{quiet_closing}
use Rattle.tk_frames.proofs.CarriedLemmas.{tally-append}

abbrev one : Bool → ℕ
one b = if b then 1 else 0

-- ---- batches

asked_one : (own : Bool) (round : ℕ) (asked : List ℕ) (frames : List Frame) → tally is_collect (cons_option (if own then Some (f.Collect round asked) else None) frames) ≡ one own + tally is_collect frames
asked_one true round asked frames = omega arith
asked_one false round asked frames = omega arith

abbrev pub named_times : List ℕ → ℕ → ℕ
named_times [] mon = 0
named_times (m ∷ mons) mon = one (m == mon) + named_times mons mon

asked_times : (mon round : ℕ) (asked mons : List ℕ) → collects_to mon (collects round asked mons) ≡ named_times mons mon
asked_times mon round asked [] = refl
asked_times mon round asked (m ∷ mons) = let a = asked_one (m == mon) round asked (frames_to mon (collects round asked mons)) in let b = asked_times mon round asked mons in omega (arith, a, b)

one_or : (b : Bool) (c : Bool) → (b ≡ true → c ≡ false) → one b + one c ≡ one (b || c)
one_or true c h = let e = ap one (h refl) in omega (arith, e)
one_or false c h = omega arith

pub named_once : (b mon : ℕ) (mons : List ℕ) → Rises b mons → named_times mons mon ≡ one (is_in mons mon)
named_once b mon [] up = refl
named_once b mon (m ∷ mons) up =
    let rest = named_once m mon mons up.1 in
    let both = one_or (m == mon) (is_in mons mon) (λ e. is_in-low m mons mon up.1 (let same = eqb-true m mon e in omega (arith, same))) in
    omega (arith, rest, both)

plain_one : (own : Bool) (frame : Frame) (frames : List Frame) → is_collect frame ≡ false → tally is_collect (cons_option (if own then Some frame else None) frames) ≡ tally is_collect frames
plain_one true frame frames none = let e = ap one none in omega (arith, e)
plain_one false frame frames none = refl

plain_batch : {A : Type 0} (mon : ℕ) (to : A → ℕ) (frame : A → Frame) (rows : List A) → ((d : A) → is_collect (frame d) ≡ false) → collects_to mon (batch to frame rows) ≡ 0
plain_batch mon to frame [] none = refl
plain_batch mon to frame (d ∷ rows) none = plain_one (to d == mon) (frame d) (frames_to mon (batch to frame rows)) (none d) ∙ plain_batch mon to frame rows none

collects-append : (mon : ℕ) (a b : List Noted) → collects_to mon (a ++ b) ≡ collects_to mon a + collects_to mon b
collects-append mon a b = ap (tally is_collect) (frames_to-append mon a b) ∙ tally-append is_collect (frames_to mon a) (frames_to mon b)

values-append : (mon : ℕ) (a b : List Noted) → values_from mon (a ++ b) ≡ values_from mon a + values_from mon b
values-append mon a b = ap (tally is_values) (frames_from-append mon a b) ∙ tally-append is_values (frames_from mon a) (frames_from mon b)

-- ---- the law, piece by piece

abbrev pub Asked : ℕ → List Noted → Type 0
Asked mon j = collects_to mon j ≡ values_from mon j + (if waits_for (last_round j) mon j then 1 else 0)

abbrev pub AreAsked : Setup → List Noted → Type 0
AreAsked s j = (mon : ℕ) → IsMonitor s mon → Asked mon j

-- a taken frame that is no Values of this monitor
came_other : (mon : ℕ) (before : List Noted) (from : Mon) (frame : Frame) (own : Bool) → from.0 == mon ≡ own → (own ≡ true → is_values frame ≡ false) → values_from mon (n.Got from frame ∷ []) ≡ 0
came_other mon before from frame true e none = rw e (rw (none refl) refl)
came_other mon before from frame false e none = rw e refl

came_own : (mon : ℕ) (from : Mon) (frame : Frame) → from.0 == mon ≡ true → is_values frame ≡ true → values_from mon (n.Got from frame ∷ []) ≡ 1
came_own mon from frame e is = rw e (rw is refl)

not_for : (round mon : ℕ) (frame : Frame) → is_values frame ≡ false → values_for round mon frame ≡ None
not_for round mon (f.Values r seq border values) none = cc
not_for round mon (f.Hello run version m) none = refl
not_for round mon (f.Report seq border failed values) none = refl
not_for round mon (f.Collect r asked) none = refl
not_for round mon (f.Assign seq members changes) none = refl
not_for round mon (f.Settled seq last places) none = refl
not_for round mon f.Stop none = refl

choice_none : (own : Bool) (x : Option Reported) → (own ≡ true → x ≡ None) → (if own then x else None) ≡ None
choice_none true x h = h refl
choice_none false x h = refl

got_other : (mon : ℕ) (before : List Noted) (from : Mon) (frame : Frame) → (from.0 == mon ≡ true → is_values frame ≡ false) → Asked mon before → Asked mon (with_got before from frame)
unfolding waits_for
got_other mon before from frame none h =
    let now = with_got before from frame in
    let round = got_round before from frame in
    let R = last_round before in
    let asked = got_asked R mon before from frame in
    let values : values_of R mon now ≡ values_of R mon before =
    got_values R mon before from frame ∙ ap (λ x. later (values_of R mon before) x) (choice_none (from.0 == mon) (values_for R mon frame) (λ own. not_for R mon frame (none own))) in
    let waits : (is_some (asked_of (last_round now) mon now) && not (is_some (values_of (last_round now) mon now))) ≡ (is_some (asked_of R mon before) && not (is_some (values_of R mon before))) =
    ap (λ q. is_some (asked_of q mon now) && not (is_some (values_of q mon now))) round ∙ ap (λ x. is_some x && not (is_some (values_of R mon now))) asked ∙ ap (λ x. is_some (asked_of R mon before) && not (is_some x)) values in
    let to = collects-append mon before (n.Got from frame ∷ []) in
    let came = values-append mon before (n.Got from frame ∷ []) in
    let zero' = came_other mon before from frame (from.0 == mon) refl none in
    let flag = ap one waits in
    omega (arith, h, to, came, zero', flag)

-- the Values of this monitor, which the last round waits for
got_own : (s : Setup) (mon : ℕ) (before : List Noted) (from : Mon) (round seq : ℕ) (border : ℤ) (values : List (ℕ × ℤ)) → from.0 == mon ≡ true → refusal_of s before mon (f.Values round seq border values) ≡ None → Asked mon before
    → Asked mon (with_got before from (f.Values round seq border values))
unfolding waits_for
got_own s mon before from round seq border values own none h =
    let frame = f.Values round seq border values in
    let now = with_got before from frame in
    let R = last_round before in
    let awaited = accepted_values (shown_by mon before) (known_by s mon before) round seq border values (accepted_kind s before mon frame none).1 in
    let waits = awaited_waits before mon round awaited.awaited in
    let v : Reported = record { mon = record { 0 = mon }; values = values; border = border } in
    let came : values_of R mon now ≡ later (values_of R mon before) (Some v) =
    got_values R mon before from frame ∙ ap (λ b. later (values_of R mon before) (if b then values_for R mon frame else None)) own ∙ ap (λ b. later (values_of R mon before) (if b then Some v else None)) (eq-eqb round R waits.last) in
    let over : (is_some (asked_of (last_round now) mon now) && not (is_some (values_of (last_round now) mon now))) ≡ false =
    ap (λ q. is_some (asked_of q mon now) && not (is_some (values_of q mon now))) (got_round before from frame) ∙ ap (λ x. is_some (asked_of R mon now) && not (is_some x)) came ∙ and-false (is_some (asked_of R mon now)) in
    let to = collects-append mon before (n.Got from frame ∷ []) in
    let from' = values-append mon before (n.Got from frame ∷ []) in
    let one' = came_own mon from frame own refl in
    let was = ap one waits.waits in
    let is = ap one over in
    omega (arith, h, to, from', one', was, is)

got_values_case : (s : Setup) (before : List Noted) (from : Mon) (frame : Frame) (mon : ℕ) → is_values frame ≡ true → from.0 == mon ≡ true → refusal_of s before from.0 frame ≡ None → Asked mon before → Asked mon (with_got before from frame)
got_values_case s before from (f.Values round seq border values) mon is own none h = got_own s mon before from round seq border values own (subst (λ q. refusal_of s before q (f.Values round seq border values) ≡ None) (eqb-true from.0 mon own) none) h
got_values_case s before from (f.Hello run version m) mon is own none h = absurd (cc)
got_values_case s before from (f.Report seq border failed values) mon is own none h = absurd (cc)
got_values_case s before from (f.Collect r asked) mon is own none h = absurd (cc)
got_values_case s before from (f.Assign seq members changes) mon is own none h = absurd (cc)
got_values_case s before from (f.Settled seq last places) mon is own none h = absurd (cc)
got_values_case s before from f.Stop mon is own none h = absurd (cc)

got_asked_all : (s : Setup) (before : List Noted) (from : Mon) (frame : Frame) (mon : ℕ) → refusal_of s before from.0 frame ≡ None → Asked mon before → Asked mon (with_got before from frame)
got_asked_all s before from frame mon none h = elim (cases_Bool (from.0 == mon)) [
  | inl own ↦ elim (cases_Bool (is_values frame)) [
    | inl is ↦ got_values_case s before from frame mon is own none h
    | inr not' ↦ got_other mon before from frame (λ _. not') h
  ]
  | inr other ↦ got_other mon before from frame (λ own. absurd (true≢false (sym own ∙ other))) h
]

sent_asked : (mon : ℕ) (now : List Noted) (members : List ℕ) (rows : List Row) → Asked mon now → Asked mon (now ++ sends now members rows)
unfolding waits_for
sent_asked mon now members rows h =
    let to : Row → ℕ = λ d. d.0 in
    let seq : Row → ℕ = λ d. assigns_sent d.0 now + 1 in
    let changes : Row → List (ℕ × ℤ) = λ d. d.1 in
    let after = now ++ sends now members rows in
    let R = last_round now in
    let waits : (is_some (asked_of (last_round after) mon after) && not (is_some (values_of (last_round after) mon after))) ≡ (is_some (asked_of R mon now) && not (is_some (values_of R mon now))) =
    ap (λ q. is_some (asked_of q mon after) && not (is_some (values_of q mon after))) (named_round now to seq members changes rows)
    ∙ ap (λ x. is_some x && not (is_some (values_of R mon after))) (named_asked R mon now to seq members changes rows)
    ∙ ap (λ x. is_some (asked_of R mon now) && not (is_some x)) (batch_values R mon now to (named seq members changes) rows) in
    let a = collects-append mon now (sends now members rows) in
    let b = values-append mon now (sends now members rows) in
    let c = plain_batch mon to (named seq members changes) rows (λ d. refl) in
    let d : values_from mon (sends now members rows) ≡ 0 = ap (tally is_values) (batch_from mon to (named seq members changes) rows) in
    let e = ap one waits in
    omega (arith, h, a, b, c, d, e)

-- a choice between something and nothing is what was tested
pub some_if : (b : Bool) (asked : List ℕ) → (is_some (if b then Some asked else None) && true) ≡ b
some_if true asked = refl
some_if false asked = refl

asks_asked : (s : Setup) (now : List Noted) (round : ℕ) (asked : List ℕ) (q : ℕ) (mons : List ℕ) (mon : ℕ) → IsMonitor s mon → Rises 0 (q ∷ mons) → AreCounted s now → last_round now < round → is_open s now ≡ false → Asked mon now → Asked mon (now ++ collects round asked (q ∷ mons))
unfolding waits_for
asks_asked s now round asked q mons mon m up c new closed h =
    let list = collects round asked (q ∷ mons) in
    let after = now ++ list in
    let last = collects_round now round asked q mons in
    let waits : (is_some (asked_of (last_round after) mon after) && not (is_some (values_of (last_round after) mon after))) ≡ is_in (q ∷ mons) mon =
    ap (λ x. is_some (asked_of x mon after) && not (is_some (values_of x mon after))) last
    ∙ ap (λ x. is_some x && not (is_some (values_of round mon after))) (new_asked s now round asked (q ∷ mons) mon c new)
    ∙ ap (λ x. is_some (if is_in (q ∷ mons) mon then Some asked else None) && not (is_some x)) (new_values s now round asked (q ∷ mons) mon c new)
    ∙ some_if (is_in (q ∷ mons) mon) asked in
    let was = ap one (closed_waits s now closed mon m) in
    let a = collects-append mon now list in
    let b = values-append mon now list in
    let c' = asked_times mon round asked (q ∷ mons) in
    let d = named_once 0 mon (q ∷ mons) up in
    let e : values_from mon list ≡ 0 = ap (tally is_values) (batch_from mon (λ (x : ℕ). x) (λ _. f.Collect round asked) (q ∷ mons)) in
    let g = ap one waits in
    omega (arith, h, was, a, b, c', d, e, g)

grown_asked : (s : Setup) (before : List Noted) (from : Mon) (frame : Frame) (after : List Noted) → Grows s before from frame after → refusal_of s before from.0 frame ≡ None → IsOrderly s (with_got before from frame) → AreAsked s before → AreAsked s after
grown_asked s before from frame after (Nothing e same resting) none o h mon m = subst (Asked mon) (sym e) (got_asked_all s before from frame mon none (h mon m))
grown_asked s before from frame after (ToOne members row border failed values fresh' node was closed e) none o h mon m = subst (Asked mon) (sym e) (sent_asked mon (with_got before from frame) members (row ∷ []) (got_asked_all s before from frame mon none (h mon m)))
grown_asked s before from frame after (ToAll members rows cause nodes closed e) none o h mon m = subst (Asked mon) (sym e) (sent_asked mon (with_got before from frame) members rows (got_asked_all s before from frame mon none (h mon m)))
grown_asked s before from frame after (Asks round asked q mons rising closed new e opened') none o h mon m =
    subst (Asked mon) (sym e) (asks_asked s (with_got before from frame) round asked q mons mon m rising o.counted new closed (got_asked_all s before from frame mon none (h mon m)))

-- ---- every legal journal

stops_none : (mon : ℕ) (mons : List ℕ) → collects_to mon (map (λ m. n.Sent (record { 0 = m }) f.Stop) mons) ≡ 0
stops_none mon mons = plain_batch mon (λ (m : ℕ). m) (λ _. f.Stop) mons (λ _. refl)

closing_none : (s : Setup) (mon : ℕ) (due last : Bool) (p : Publication) → collects_to mon (if due then n.Published p ∷ (if last then stops s else []) else []) ≡ 0
closing_none s mon true true p = stops_none mon (monitors s)
closing_none s mon true false p = refl
closing_none s mon false last p = refl

none_closing : (s : Setup) (j : List Noted) (mon : ℕ) → collects_to mon (closing s j) ≡ 0
unfolding closing
none_closing s j mon = closing_none s mon (is_due s j) (is_last s j) (publication_at s j)

closed_asked : (s : Setup) (j : List Noted) (mon : ℕ) → Asked mon j → Asked mon (j ++ closing s j)
closed_asked s j mon h =
    let e = same_closing s j in
    let a = collects-append mon j (closing s j) in
    let b = values-append mon j (closing s j) in
    let c = none_closing s j mon in
    let d : values_from mon (closing s j) ≡ 0 = ap (tally is_values) (quiet_closing s j mon) in
    let w = ap one (ap (λ q. waits_for q mon (j ++ closing s j)) e.round ∙ waits_by j (j ++ closing s j) e.asked e.values (last_round j) mon) in
    omega (arith, h, a, b, c, d, w)

tuned_asked : (before : List Noted) (q : ℕ) (epsilon : ℤ) (mon : ℕ) → Asked mon before → Asked mon (before ++ n.Tuned q epsilon ∷ [])
unfolding asked_of values_of
tuned_asked before q epsilon mon h =
    let mid = before ++ n.Tuned q epsilon ∷ [] in
    let a = collects-append mon before (n.Tuned q epsilon ∷ []) in
    let b = values-append mon before (n.Tuned q epsilon ∷ []) in
    let w = ap one (ap (λ r. waits_for r mon mid) (tuned_round before q epsilon) ∙ waits_by before mid (λ r m. asked_of-append r m before (n.Tuned q epsilon ∷ [])) (λ r m. values_of-append r m before (n.Tuned q epsilon ∷ [])) (last_round before) mon) in
    omega (arith, h, a, b, w)

retune_closed : (s : Setup) (j : List Noted) (k e : ℕ) → retune_refusal_of s j k e ≡ None → is_open s j ≡ false
unfolding retune_refusal_of
retune_closed s j k e none = (if_none (is_open s j) retune.RoundOpen _ (if_none (is_stopped j) retune.AfterStop _ none).1).0

record IsAsking (s : Setup) (j : List Noted) : Type 0 where
  order : IsOrderly s j
  asked : AreAsked s j

asking_parts : (s : Setup) (k : ℕ) → s.monitors ≡ suc k → FrameTurn s (IsAsking s)
asking_parts s k some = record {
  demands = λ before from frame range none h. record {
    order = orderly_demanded s before from frame k some range none h.order;
    asked = grown_asked s before from frame (with_got before from frame ++ demanded s before from.0 frame) (grows s before from frame k some range none h.order) none (orderly_got s before from frame none h.order) h.asked;
  };
  closes = λ j h. record {
    order = orderly_same s j (j ++ closing s j) (same_closing s j) h.order;
    asked = λ mon m. closed_asked s j mon (h.asked mon m);
  };
  tunes = λ before q epsilon accepted h. record {
    order = (orderly_parts s k some).tunes before q epsilon accepted h.order;
    asked = λ mon m.
        let mid = before ++ n.Tuned q epsilon ∷ [] in
        let o = orderly_tuned s before q epsilon h.order in
        let closed : is_open s mid ≡ false = tuned_waits before q epsilon s ∙ retune_closed s before q accepted.0 accepted.2 in
        let list : mid ++ wide_collects s (rounds s before + 1) ≡ mid ++ collects (rounds s before + 1) (objects s.objects) (1 ∷ range_with_len (1 + 1) k) = ap (λ xs. mid ++ collects (rounds s before + 1) (objects s.objects) xs) (ap (range_with_len 1) some) in
        subst (Asked mon) (sym list) (asks_asked s mid (rounds s before + 1) (objects s.objects) 1 (range_with_len (1 + 1) k) mon m (range_rises (suc k)) o.counted (let t = tuned_round before q epsilon in let l = h.order.counted.last in omega (arith, t, l)) closed
        (tuned_asked before q epsilon mon (h.asked mon m)));
  };
}

opened_asked : (o : Opening) (mon : ℕ) → IsMonitor o.settings mon → Asked mon (opened o)
opened_asked o mon m =
    let a = plain_batch mon (λ (p : ℕ × List (ℕ × ℤ)). p.0) (named (λ _. 1) o.members (λ p. p.1)) (enumerate_from 1 o.factors) (λ p. refl) in
    let b : values_from mon (opened o) ≡ 0 = ap (tally is_values) (batch_from mon (λ (p : ℕ × List (ℕ × ℤ)). p.0) (named (λ _. 1) o.members (λ p. p.1)) (enumerate_from 1 o.factors)) in
    let w = ap one (closed_waits o.settings (opened o) (opened_closed o) mon m) in
    omega (arith, a, b, w)

pub each_collect_is_answered : (o : Opening) (j : List Noted) (mon : ℕ) → IsSetUp o → IsLegal o j → IsMonitor o.settings mon → Asked mon j
each_collect_is_answered o j mon set legal m =
    let s = o.settings in
    let k = one_less s.monitors set.limits.some_monitor in
    (legal_carries o (IsAsking s) (by_parts s (IsAsking s) (asking_parts s k.0 k.1)) (record { order = opened_orderly o k.0 k.1 set.factors; asked = λ q r. opened_asked o q r }) j legal).asked mon m
