-- What is enabled: a check where something is due, a delivery where a frame is under way, a retune that is not refused; and
-- so which worlds are settled.
use Rattle.tk_journal.specs.declared.noted.Noted.TheVariants as n
use Rattle.std.proofs.Common.{◌≡◌, ℕ, ◌+◌, ◌-◌, ◌<◌, ◌&&◌, true, false, List, length, get_or, Option, Some, None, Result, Ok, Err, refl, sym, ap, ap₂, ◌∙◌, subst, arith, inl, inr}
use Rattle.std.specs.Prelude.{OnErr, pos, is_some, nat_le, slice_get, if◌then◌else◌}
use Rattle.std.specs.Option.{option_map}
use Rattle.std.proofs.lemmas.Bool.{and_parts, cases_Bool, leb-false, leb-true, true≢false}
use Rattle.std.proofs.lemmas.List.{get_or_default}
use Rattle.std.proofs.lemmas.Option.{slice_get_past}
use Rattle.tk_base.specs.Settings.{Setup}
use Rattle.tk_base.specs.declared.ids.Mon.{Mon}
use Rattle.tk_base.proofs.ListLemmas.{there_at}
use Rattle.tk_frames.specs.declared.frame.Frame.{Frame}
use Rattle.tk_input.specs.Logs.{LogSet}
use Rattle.tk_input.specs.declared.event.Event.{Event}
use Rattle.tk_input.specs.declared.event.Event.TheVariants.{Check, Up, Down, Retune}
use Rattle.tk_input.specs.Event.{Tuning}
use Rattle.tk_journal.specs.Laws.{IsMonitor}
use Rattle.tk_journal.specs.Links.{frames_from, frames_to}
use Rattle.tk_journal.specs.Refusal.{retune_refusal_of}
use Rattle.tk_journal.specs.declared.noted.Noted.{Noted}
use Rattle.tk_journal.specs.declared.refusal.RetuneRefusal.{RetuneRefusal}
use Rattle.tk_monitor.specs.Monitored.{checked_at}
use Rattle.tk_monitor.specs.declared.outcome.Checked.{Checked}
use Rattle.tk_monitor.specs.declared.outcome.Checked.TheVariants.{Reported, ToldEnd, Nothing}
use Rattle.tk_trail.specs.Frames.{due_at}
use Rattle.tk_trail.specs.Legal.{after_take}
use Rattle.tk_trail.specs.Readings.{sent_by, taken_by}
use Rattle.tk_trail.specs.Setup.{MonitorSetup}
use Rattle.tk_trail.specs.declared.entry.Entry.{Entry}
use Rattle.tk_story.specs.Story.{StoryView, setup_of, trail_of}
use Rattle.tk_world.specs.Events.{CanOnlyChange, is_of, moved, next_of, with_trail, with_turn}
use Rattle.tk_world.specs.Nodes.{fresh_seat}
use Rattle.tk_world.specs.Seats.{AreResting, Holds, IsOneAtWork, IsResting, is_resting_seat, sends_nothing, story_in}
use Rattle.tk_world.specs.Work.{has}
use Rattle.tk_world.specs.declared.seat.Seat.{Seat}
use Rattle.tk_world.specs.declared.work.Work.{Work}
use Rattle.tk_world.proofs.EventLemmas.{check_goes, moves}
use Rattle.tk_world.proofs.IdleLemmas.{is_one}
use Rattle.tk_world.proofs.RestLemmas.{all_rest, at_rest}
use Rattle.tk_world.proofs.SeatLemmas.{inside, seat_is, trail_is}
use Rattle.tk_world.proofs.WorldLemmas.{due_there, none_due, rests}

-- ---- enabled events

enabled_by : (s t : StoryView) (e : Event) → is_of s e ≡ true → moved s e ≡ Some t → is_some (next_of s e) ≡ true
enabled_by s t e of is = ap is_some (moves s t e of is)

pub check_enabled : (S : Setup) (L : LogSet) (F : List (List ℕ)) (j : List Noted) (seats : List Seat) (raises : ℕ) (work : Work) (mon : Mon) (seat : Seat) (checked : Checked) → Holds S L F j seats raises work → has work mon.0 ≡ true
    → seat ≡ get_or seats (mon.0 - 1) seat → checked ≡ checked_at seat.monitor.setup seat.monitor.trail → (checked ≡ Nothing → ⊥) → is_some (next_of (story_in S L F j seats) (Check mon)) ≡ true
check_enabled S L F j seats raises work mon seat checked h busy at answer some =
    let due = due_there seat.monitor.setup seat.monitor.trail checked answer some in
    ap is_some (check_goes S L F j seats raises work mon seat due.0 h (h.within mon.0 busy) at busy due.1).0

pub up_enabled : (S : Setup) (L : LogSet) (F : List (List ℕ)) (j : List Noted) (seats : List Seat) (raises : ℕ) (work : Work) (mon : Mon) (seat : Seat) → Holds S L F j seats raises work → has work mon.0 ≡ true
    → seat ≡ get_or seats (mon.0 - 1) seat → seat.got < length (sent_by seat.monitor.trail) → is_some (next_of (story_in S L F j seats) (Up mon)) ≡ true
up_enabled S L F j seats raises work mon seat h busy at more =
    let s = story_in S L F j seats in
    let m = h.within mon.0 busy in
    let is = seat_is S L F j seats raises work mon.0 seat h m at in
    let own = trail_is S L F j seats mon.0 seat h.story m at in
    let next = there_at (sent_by seat.monitor.trail) seat.got more in
    let under_way : slice_get (sent_by (trail_of s mon.0)) (length (frames_from mon.0 j)) ≡ Some next.0 = ap₂ (λ (t : List Entry) (k : ℕ). slice_get (sent_by t) k) own (sym is.got) ∙ next.1 in
    enabled_by s (with_turn s (n.Got mon next.0)) (Up mon) (is_one s mon.0 m) (ap (option_map (λ (frame : Frame). with_turn s (n.Got mon frame))) under_way)

pub down_enabled : (S : Setup) (L : LogSet) (F : List (List ℕ)) (j : List Noted) (seats : List Seat) (raises : ℕ) (work : Work) (mon : Mon) (seat : Seat) → Holds S L F j seats raises work → has work mon.0 ≡ true
    → seat ≡ get_or seats (mon.0 - 1) seat → seat.taken < length (frames_to mon.0 j) → is_some (next_of (story_in S L F j seats) (Down mon)) ≡ true
down_enabled S L F j seats raises work mon seat h busy at more =
    let s = story_in S L F j seats in
    let m = h.within mon.0 busy in
    let is = seat_is S L F j seats raises work mon.0 seat h m at in
    let own = trail_is S L F j seats mon.0 seat h.story m at in
    let next = there_at (frames_to mon.0 j) seat.taken more in
    let walked : length (taken_by (trail_of s mon.0)) ≡ seat.taken = ap (λ (t : List Entry). length (taken_by t)) own ∙ sym is.taken in
    let under_way : slice_get (frames_to mon.0 j) (length (taken_by (trail_of s mon.0))) ≡ Some next.0 = ap (slice_get (frames_to mon.0 j)) walked ∙ next.1 in
    enabled_by s (with_trail s mon.0 (after_take (setup_of s mon.0) (trail_of s mon.0) next.0)) (Down mon) (is_one s mon.0 m)
    (ap (option_map (λ (frame : Frame). with_trail s mon.0 (after_take (setup_of s mon.0) (trail_of s mon.0) frame))) under_way)

pub retune_enabled : (s : StoryView) (tuning : Tuning) → retune_refusal_of s.settings s.journal tuning.k tuning.epsilon ≡ None → is_some (next_of s (Retune tuning)) ≡ true
retune_enabled s tuning none =
    enabled_by s (with_turn s (n.Tuned tuning.k (pos tuning.epsilon))) (Retune tuning) refl (ap (λ (o : Option RetuneRefusal). if is_some o then None else Some (with_turn s (n.Tuned tuning.k (pos tuning.epsilon)))) none)

pub there_is : {X : Type 0} (o : Option X) → is_some o ≡ true → (x : X) × (o ≡ Some x)
there_is None some = absurd (true≢false (sym some))
there_is (Some x) some = (x, refl)

-- ---- at rest

nothing_sent : (checked : Checked) → sends_nothing checked ≡ true → Nothing ≡ checked
nothing_sent Reported none = absurd (true≢false (sym none))
nothing_sent ToldEnd none = absurd (true≢false (sym none))
nothing_sent Nothing none = refl

something_sent : (checked : Checked) → sends_nothing checked ≡ false → checked ≡ Nothing → ⊥
something_sent Reported some is = absurd (cc)
something_sent ToldEnd some is = absurd (cc)
something_sent Nothing some is = true≢false some

-- a seat at which nothing is on the links, and nothing due
seat_rests : (S : Setup) (L : LogSet) (F : List (List ℕ)) (j : List Noted) (seats : List Seat) (raises : ℕ) (work : Work) (mon : ℕ) (seat : Seat) → Holds S L F j seats raises work → IsMonitor S mon → seat ≡ get_or seats (mon - 1) seat
    → is_resting_seat (length (frames_to mon j)) seat ≡ true → IsResting (setup_of (story_in S L F j seats) mon) (trail_of (story_in S L F j seats) mon) j mon
seat_rests S L F j seats raises work mon seat h m at rests' =
    let s = story_in S L F j seats in
    let here = seat_is S L F j seats raises work mon seat h m at in
    let own = trail_is S L F j seats mon seat h.story m at in
    let low = nat_le (length (frames_to mon j)) seat.taken in
    let high = nat_le (length (sent_by seat.monitor.trail)) seat.got in
    let both = and_parts (low && high) (sends_nothing (checked_at seat.monitor.setup seat.monitor.trail)) rests' in
    let links = and_parts low high both.0 in
    let down = leb-true (length (frames_to mon j)) seat.taken links.0 in
    let up = leb-true (length (sent_by seat.monitor.trail)) seat.got links.1 in
    let walked : length (taken_by (trail_of s mon)) ≡ seat.taken = ap (λ (t : List Entry). length (taken_by t)) own ∙ sym here.taken in
    let sent : length (sent_by (trail_of s mon)) ≡ length (sent_by seat.monitor.trail) = ap (λ (t : List Entry). length (sent_by t)) own in
    let got = here.got in
    record {
      due = ap₂ (λ (a : MonitorSetup) (t : List Entry). due_at a t) (sym here.setup) own ∙ none_due seat.monitor.setup seat.monitor.trail (nothing_sent (checked_at seat.monitor.setup seat.monitor.trail) both.1);
      down = slice_get_past (frames_to mon j) (length (taken_by (trail_of s mon))) (omega (arith, down, walked));
      up = slice_get_past (sent_by (trail_of s mon)) (length (frames_from mon j)) (omega (arith, up, sent, got));
    }

next_number : (k : ℕ) → k + 1 - 1 ≡ k
next_number k = omega arith

pub all_at_rest : (S : Setup) (L : LogSet) (F : List (List ℕ)) (j : List Noted) (seats : List Seat) (raises : ℕ) (work : Work) → Holds S L F j seats raises work → AreResting j work seats → CanOnlyChange (story_in S L F j seats)
all_at_rest S L F j seats raises work h each = all_rest (story_in S L F j seats) (λ mon. elim (cases_Bool (has work mon)) [
  | inr free ↦ rests S L F j seats raises work mon h free
  | inl busy ↦
      let m = h.within mon busy in
      let none = fresh_seat S L F 1 in
      let seat = get_or seats (mon - 1) none in
      let within = inside S L F j seats mon h.story m in
      let again : mon - 1 + 1 ≡ mon = (let a = m.from_one in omega (arith, a)) in
      at_rest (story_in S L F j seats) mon (λ m'. seat_rests S L F j seats raises work mon seat h m (sym (get_or_default seats (mon - 1) seat none within))
      (subst (λ q. is_resting_seat (length (frames_to q j)) seat ≡ true) again (each (mon - 1) none within (ap (has work) again ∙ busy))))
])

pub one_at_work : (S : Setup) (L : LogSet) (F : List (List ℕ)) (j : List Noted) (seats : List Seat) (raises : ℕ) (work : Work) → Holds S L F j seats raises work → IsOneAtWork j work seats → CanOnlyChange (story_in S L F j seats) → ⊥
one_at_work S L F j seats raises work h (k, d, within, busy, moving) only =
    let mon : Mon = record { 0 = k + 1 } in
    let m = h.within (k + 1) busy in
    let seat = get_or seats k d in
    let at : seat ≡ get_or seats (k + 1 - 1) seat = sym (get_or_default seats k seat d within) ∙ ap (λ i. get_or seats i seat) (sym (next_number k)) in
    let low = nat_le (length (frames_to (k + 1) j)) seat.taken in
    let high = nat_le (length (sent_by seat.monitor.trail)) seat.got in
    let checked = checked_at seat.monitor.setup seat.monitor.trail in
    elim (cases_Bool low) [
      | inr more ↦ true≢false (sym (down_enabled S L F j seats raises work mon seat h busy at (let l = leb-false (length (frames_to (k + 1) j)) seat.taken more in omega (arith, l))) ∙ ap is_some (only.down (k + 1) m))
      | inl taken ↦ elim (cases_Bool high) [
        | inr more ↦ true≢false (sym (up_enabled S L F j seats raises work mon seat h busy at (let l = leb-false (length (sent_by seat.monitor.trail)) seat.got more in omega (arith, l))) ∙ ap is_some (only.up (k + 1) m))
        | inl got ↦
            let some : sends_nothing checked ≡ false = sym (ap (λ b. b && sends_nothing checked) (ap₂ (λ a b. a && b) taken got)) ∙ moving in
            true≢false (sym (check_enabled S L F j seats raises work mon seat checked h busy at refl (something_sent checked some)) ∙ ap is_some (only.check (k + 1) m))
      ]
    ]

-- ---- where memory was wanted

pub on_err : {P : Type 0} {T E : Type 0} (r : Result T E) → P → OnErr r P
on_err (Ok x) p = tt
on_err (Err e) p = p
