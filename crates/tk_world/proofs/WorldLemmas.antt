-- What each call of a world leaves, over the values that its steps leave.
use Rattle.tk_journal.specs.declared.noted.Noted.TheVariants as n
use Rattle.std.proofs.Common.{◌≡◌, ℕ, ◌+◌, ◌-◌, ◌≤◌, ◌<◌, ◌==◌, ◌&&◌, ◌||◌, ◌⊎◌, not, All, Bool, true, false, List, [], ◌∷◌, ◌++◌, length, set, get_or, drop, take, Option, Some, None, refl, sym, ap, ap₂, ◌∙◌, subst, arith, inl, inr}
use Rattle.std.specs.Prelude.{pos, slice_get, nat_le, nat_lt, if◌then◌else◌}
use Rattle.std.proofs.Math.Bool.{and-false, and-true}
use Rattle.std.proofs.lemmas.Bool.{and_parts, cases_eq, eq-eqb, le-ltb, leb-true, ne_eqb, or_parts}
use Rattle.std.proofs.lemmas.List.{length-drop, set-get_or, take_all}
use Rattle.std.proofs.lemmas.Option.{slice_get_past}
use Rattle.tk_base.specs.Settings.{Setup, IsWithinLimits}
use Rattle.tk_base.specs.declared.ids.Feeder.{Feeder}
use Rattle.tk_base.specs.declared.ids.Mon.{Mon}
use Rattle.tk_frames.specs.declared.frame.Frame.{Frame}
use Rattle.tk_input.specs.Event.{Tuning}
use Rattle.tk_input.specs.Logs.{LogSet}
use Rattle.tk_input.specs.declared.event.Event.{Event}
use Rattle.tk_input.specs.declared.event.Event.TheVariants.{Raise, Check, Up, Down, Retune}
use Rattle.tk_journal.specs.Entries.{IsEntryOf}
use Rattle.tk_journal.specs.Laws.{IsMonitor}
use Rattle.tk_journal.specs.Legal.{turn_of}
use Rattle.tk_journal.specs.Links.{frames_from, frames_to}
use Rattle.tk_journal.specs.Refusal.{retune_refusal_of}
use Rattle.tk_journal.specs.declared.noted.Noted.{Noted}
use Rattle.tk_monitor.specs.Monitored.{MonitorView, checked_at}
use Rattle.tk_monitor.specs.declared.outcome.Checked.{Checked}
use Rattle.tk_monitor.specs.declared.outcome.Checked.TheVariants.{Reported, ToldEnd, Nothing}
use Rattle.tk_monitor.proofs.KeptLemmas.{none_when, nothing_when, reported_when, told_when, end_when, report_when}
use Rattle.tk_trail.specs.Frames.{due_at, report_at, settled_at}
use Rattle.tk_trail.specs.Legal.{HasNext, after_check, after_take, part_length, place_of, with_answer}
use Rattle.tk_trail.specs.Readings.{at_ends, is_broken, sent_by, taken_by}
use Rattle.tk_trail.specs.Setup.{MonitorSetup}
use Rattle.tk_trail.specs.declared.entry.Entry.{Entry}
use Rattle.tk_trail.specs.declared.entry.Entry.TheVariants.{Raised, Sent}
use Rattle.tk_story.specs.Story.{StoryView, setup_of, trail_of}
use Rattle.tk_world.specs.Events.{is_monitor, next_of, with_trail}
use Rattle.tk_world.specs.Seats.{Holds, IsResting, story_in}
use Rattle.tk_world.specs.Work.{has, is_sent}
use Rattle.tk_world.specs.World.{IsAtRest}
use Rattle.tk_world.specs.declared.seat.Seat.{Seat}
use Rattle.tk_world.specs.declared.work.Work.{Work}
use Rattle.tk_world.proofs.EventLemmas.{check_goes, down_goes, raise_goes}
use Rattle.tk_world.proofs.RestLemmas.{at_rest, no_check, no_down, no_up, not_of, stays}
use Rattle.tk_world.proofs.SeatLemmas.{Works, seat_is, trail_is}
use Rattle.tk_world.proofs.StepLemmas.{monitor_is}
use Rattle.tk_world.proofs.TurnLemmas.{Adds, retune_goes, sent_within, up_goes, with_got}

-- an event leads to the story of these fields, of which the invariant holds
pub record Leaves (s : StoryView) (e : Event) (S : Setup) (L : LogSet) (F : List (List ℕ)) (j : List Noted) (seats : List Seat) (raises : ℕ) (work : Work) : Type 0 where
  pub next : next_of s e ≡ Some (story_in S L F j seats)
  pub holds : Holds S L F j seats raises work

-- ---- what stays

-- a seat that is written back as it was
pub unchanged : (seats : List Seat) (i : ℕ) (seat : Seat) → seat ≡ get_or seats i seat → set seats i seat ≡ seats
unchanged seats i seat at = ap (set seats i) at ∙ set-get_or seats i seat

pub rests : (S : Setup) (L : LogSet) (F : List (List ℕ)) (j : List Noted) (seats : List Seat) (raises : ℕ) (work : Work) (mon : ℕ) → Holds S L F j seats raises work → has work mon ≡ false → IsAtRest (story_in S L F j seats) mon
rests S L F j seats raises work mon h none = at_rest (story_in S L F j seats) mon (λ m. h.resting mon m none)

pub down_stays : (S : Setup) (L : LogSet) (F : List (List ℕ)) (j : List Noted) (seats : List Seat) (raises : ℕ) (work : Work) (mon : Mon) (seat : Seat) → Holds S L F j seats raises work → has work mon.0 ≡ true → seat ≡ get_or seats (mon.0 - 1) seat
    → length (frames_to mon.0 j) ≤ seat.taken → next_of (story_in S L F j seats) (Down mon) ≡ None
down_stays S L F j seats raises work mon seat h busy at empty =
    let s = story_in S L F j seats in
    let m = h.within mon.0 busy in
    let is = seat_is S L F j seats raises work mon.0 seat h m at in
    let own = trail_is S L F j seats mon.0 seat h.story m at in
    no_down s mon.0 (slice_get_past (frames_to mon.0 j) (length (taken_by (trail_of s mon.0))) (let e : length (taken_by (trail_of s mon.0)) ≡ seat.taken = ap (λ (t : List Entry). length (taken_by t)) own ∙ sym is.taken in omega (arith, e, empty)))

pub up_stays : (S : Setup) (L : LogSet) (F : List (List ℕ)) (j : List Noted) (seats : List Seat) (raises : ℕ) (work : Work) (mon : Mon) (seat : Seat) → Holds S L F j seats raises work → has work mon.0 ≡ true → seat ≡ get_or seats (mon.0 - 1) seat
    → length (sent_by seat.monitor.trail) ≤ seat.got → next_of (story_in S L F j seats) (Up mon) ≡ None
up_stays S L F j seats raises work mon seat h busy at empty =
    let s = story_in S L F j seats in
    let m = h.within mon.0 busy in
    let is = seat_is S L F j seats raises work mon.0 seat h m at in
    let own = trail_is S L F j seats mon.0 seat h.story m at in
    no_up s mon.0 (slice_get_past (sent_by (trail_of s mon.0)) (length (frames_from mon.0 j)) (let e : length (sent_by (trail_of s mon.0)) ≡ length (sent_by seat.monitor.trail) = ap (λ (t : List Entry). length (sent_by t)) own in let g = is.got in omega (arith, e, g, empty)))

-- ---- a raise

no_such : (s : StoryView) (mon : ℕ) (b : Bool) → is_monitor s mon ≡ b → (IsMonitor s.settings mon → ⊥) → b ≡ false
no_such s mon true is none = absurd (none (monitor_is s mon is))
no_such s mon false is none = refl

not_both : (g n : ℕ) (b : Bool) → (nat_le 1 g && nat_le g n) ≡ b → ((1 ≤ g) × (g ≤ n) → ⊥) → b ≡ false
not_both g n true is none = let both = and_parts (nat_le 1 g) (nat_le g n) is in absurd (none (leb-true 1 g both.0, leb-true g n both.1))
not_both g n false is none = refl

-- what is known where a change of a feeder was raised
pub raise_leaves : (S : Setup) (L : LogSet) (F : List (List ℕ)) (j : List Noted) (seats : List Seat) (raises : ℕ) (work work' : Work) (mon : Mon) (g : Feeder) (seat : Seat) (new : MonitorView) (broken ended : Bool)
    → Holds S L F j seats raises work → IsMonitor S mon.0 → seat ≡ get_or seats (mon.0 - 1) seat → HasNext seat.monitor.setup seat.monitor.trail g.0
    → new ≡ record seat.monitor { trail = seat.monitor.trail ++ Raised g ∷ [] } → broken ≡ is_broken new.setup new.trail → ended ≡ at_ends new.setup new.trail
    → ((q : ℕ) → has work' q ≡ ((broken || ended) && q == mon.0 || has work q))
    → (0 < raises) × Leaves (story_in S L F j seats) (Raise mon g) S L F j (set seats (mon.0 - 1) (record { monitor = new; taken = seat.taken; got = seat.got })) (raises - 1) work'
raise_leaves S L F j seats raises work work' mon g seat new broken ended h m at next is sound going adds =
    let trail = seat.monitor.trail ++ Raised g ∷ [] in
    let seats' : MonitorView → List Seat = λ x. set seats (mon.0 - 1) (record { monitor = x; taken = seat.taken; got = seat.got }) in
    let works : Works S work work' = record {
      within = λ q at_work. elim (cases_eq q mon.0) [
        | inl same ↦ subst (IsMonitor S) (sym same) m
        | inr apart ↦ h.within q (sym (ap (λ b. (broken || ended) && b || has work q) (ne_eqb q mon.0 apart) ∙ ap (λ b. b || has work q) (and-false (broken || ended))) ∙ sym (adds q) ∙ at_work)
      ];
      more = λ q none. (or_parts ((broken || ended) && q == mon.0) (has work q) (sym (adds q) ∙ none)).1;
    } in
    let quiet : has work' mon.0 ≡ false → (broken || ended) ≡ false = λ none.
    sym (and-true (broken || ended)) ∙ ap (λ b. (broken || ended) && b) (sym (eq-eqb mon.0 mon.0 refl)) ∙ (or_parts ((broken || ended) && mon.0 == mon.0) (has work mon.0) (sym (adds mon.0) ∙ none)).0 in
    let goes = raise_goes S L F j seats raises work work' mon g seat h m at next works
    (λ none. let both = or_parts broken ended (quiet none) in (
      sym (ap (λ (x : MonitorView). is_broken x.setup x.trail) is) ∙ sym sound ∙ both.0,
      sym (ap (λ (x : MonitorView). at_ends x.setup x.trail) is) ∙ sym going ∙ both.1,
    )) in
    let same : seats' new ≡ seats' (record seat.monitor { trail = trail }) = ap seats' is in (
      goes.1,
      record {
        next = goes.0 ∙ ap (λ (xs : List Seat). Some (story_in S L F j xs)) (sym same);
        holds = subst (λ (xs : List Seat). Holds S L F j xs (raises - 1) work') (sym same) goes.2;
      },
    )

-- no such monitor, or no such feeder of it
pub no_monitor : (s : StoryView) (mon : Mon) (g : Feeder) → (IsMonitor s.settings mon.0 → ⊥) → next_of s (Raise mon g) ≡ None
no_monitor s mon g none = not_of s (Raise mon g) (no_such s mon.0 (is_monitor s mon.0) refl none)

pub no_feeder : (s : StoryView) (mon : Mon) (g : Feeder) → ((1 ≤ g.0) × (g.0 ≤ length (setup_of s mon.0).parts) → ⊥) → next_of s (Raise mon g) ≡ None
no_feeder s mon g none =
    stays s (Raise mon g)
    (ap (λ b. if b && nat_lt (place_of (setup_of s mon.0) (trail_of s mon.0) g.0) (part_length (setup_of s mon.0) g.0) then Some (with_trail s mon.0 (trail_of s mon.0 ++ Raised g ∷ [])) else None)
    (not_both g.0 (length (setup_of s mon.0).parts) (nat_le 1 g.0 && nat_le g.0 (length (setup_of s mon.0).parts)) refl none))

-- a part that is at its end
pub raise_ends : (S : Setup) (L : LogSet) (F : List (List ℕ)) (j : List Noted) (seats : List Seat) (raises : ℕ) (work : Work) (mon : Mon) (g : Feeder) (seat : Seat)
    → Holds S L F j seats raises work → IsMonitor S mon.0 → seat ≡ get_or seats (mon.0 - 1) seat → place_of seat.monitor.setup seat.monitor.trail g.0 ≡ part_length seat.monitor.setup g.0
    → next_of (story_in S L F j seats) (Raise mon g) ≡ None
raise_ends S L F j seats raises work mon g seat h m at ended =
    let s = story_in S L F j seats in
    let is = seat_is S L F j seats raises work mon.0 seat h m at in
    let own = trail_is S L F j seats mon.0 seat h.story m at in
    let end : nat_lt (place_of (setup_of s mon.0) (trail_of s mon.0) g.0) (part_length (setup_of s mon.0) g.0) ≡ false =
    ap₂ (λ (a : MonitorSetup) (t : List Entry). nat_lt (place_of a t g.0) (part_length a g.0)) (sym is.setup) own
    ∙ le-ltb (place_of seat.monitor.setup seat.monitor.trail g.0) (part_length seat.monitor.setup g.0) (omega (arith, ended)) in
    stays s (Raise mon g)
    (ap (λ b. if b then Some (with_trail s mon.0 (trail_of s mon.0 ++ Raised g ∷ [])) else None)
    (ap (λ b. nat_le 1 g.0 && nat_le g.0 (length (setup_of s mon.0).parts) && b) end ∙ and-false (nat_le 1 g.0 && nat_le g.0 (length (setup_of s mon.0).parts))))

-- ---- a check

pub due_there : (setup : MonitorSetup) (trail : List Entry) (checked : Checked) → checked ≡ checked_at setup trail → (checked ≡ Nothing → ⊥) → (frame : Frame) × (due_at setup trail ≡ Some frame)
due_there setup trail Reported is some = (report_at setup trail, report_when setup trail (reported_when setup trail is))
due_there setup trail ToldEnd is some = let told = told_when setup trail is in (settled_at setup trail, end_when setup trail told.0 told.1)
due_there setup trail Nothing is some = absurd (some refl)

pub check_leaves : (S : Setup) (L : LogSet) (F : List (List ℕ)) (j : List Noted) (seats : List Seat) (raises raises' : ℕ) (work : Work) (mon : Mon) (seat : Seat) (new : MonitorView) (checked : Checked)
    → Holds S L F j seats raises work → has work mon.0 ≡ true → seat ≡ get_or seats (mon.0 - 1) seat → checked ≡ checked_at seat.monitor.setup seat.monitor.trail → (checked ≡ Nothing → ⊥)
    → new ≡ record seat.monitor { trail = after_check seat.monitor.setup seat.monitor.trail } → raises' ≡ raises
    → Leaves (story_in S L F j seats) (Check mon) S L F j (set seats (mon.0 - 1) (record { monitor = new; taken = seat.taken; got = seat.got })) raises' work
check_leaves S L F j seats raises raises' work mon seat new checked h busy at answer some is room =
    let due = due_there seat.monitor.setup seat.monitor.trail checked answer some in
    let goes = check_goes S L F j seats raises work mon seat due.0 h (h.within mon.0 busy) at busy due.1 in
    let seats' : MonitorView → List Seat = λ x. set seats (mon.0 - 1) (record { monitor = x; taken = seat.taken; got = seat.got }) in
    let after : new ≡ record seat.monitor { trail = seat.monitor.trail ++ Sent due.0 ∷ [] } = is ∙ ap (λ (o : Option Frame). record seat.monitor { trail = with_answer seat.monitor.trail o }) due.1 in
    let same = ap seats' after in
    record {
      next = goes.0 ∙ ap (λ (xs : List Seat). Some (story_in S L F j xs)) (sym same);
      holds = subst (λ (xs : List Seat). Holds S L F j xs raises' work) (sym same) (subst (λ (r : ℕ). Holds S L F j (seats' (record seat.monitor { trail = seat.monitor.trail ++ Sent due.0 ∷ [] })) r work) (sym room) goes.1);
    }

pub none_due : (setup : MonitorSetup) (trail : List Entry) → Nothing ≡ checked_at setup trail → due_at setup trail ≡ None
none_due setup trail answer = let when = nothing_when setup trail answer in none_when setup trail when.0 when.1

-- a check that sends nothing, after which the monitor may be at rest
pub record ChecksNothing (S : Setup) (L : LogSet) (F : List (List ℕ)) (j : List Noted) (seats : List Seat) (mon : Mon) (seats' : List Seat) (raises : ℕ) (work : Work) : Type 0 where
  pub same : seats' ≡ seats
  pub none : next_of (story_in S L F j seats) (Check mon) ≡ None
  pub holds : Holds S L F j seats' raises work

-- a monitor that is not at work after it: it was not before, or both its links are empty
taken_out : (e w : Bool) (q mon : ℕ) → (not (e && q == mon) && w) ≡ false → (w ≡ false) ⊎ ((e ≡ true) × (q ≡ mon))
taken_out false w q mon none = inl none
taken_out true w q mon none = elim (cases_eq q mon) [
  | inl same ↦ inr (refl, same)
  | inr apart ↦ inl (sym (ap (λ b. not b && w) (ne_eqb q mon apart)) ∙ none)
]

left_rest : (S : Setup) (L : LogSet) (F : List (List ℕ)) (j : List Noted) (seats : List Seat) (work : Work) (mon q : ℕ) (empty : Bool)
    → (has work q ≡ false → IsResting (setup_of (story_in S L F j seats) q) (trail_of (story_in S L F j seats) q) j q) → (not (empty && q == mon) && has work q) ≡ false
    → (empty ≡ true → q ≡ mon → IsResting (setup_of (story_in S L F j seats) q) (trail_of (story_in S L F j seats) q) j q)
    → IsResting (setup_of (story_in S L F j seats) q) (trail_of (story_in S L F j seats) q) j q
left_rest S L F j seats work mon q empty before none now = elim (taken_out empty (has work q) q mon none) [
  | inl rest ↦ before rest
  | inr out ↦ now out.0 out.1
]

pub check_stays : (S : Setup) (L : LogSet) (F : List (List ℕ)) (j : List Noted) (seats : List Seat) (raises : ℕ) (work work' : Work) (mon : Mon) (seat : Seat) (sent : ℕ) (empty : Bool)
    → Holds S L F j seats raises work → has work mon.0 ≡ true → seat ≡ get_or seats (mon.0 - 1) seat → Nothing ≡ checked_at seat.monitor.setup seat.monitor.trail
    → sent ≡ length (frames_to mon.0 j) → empty ≡ (nat_le sent seat.taken && nat_le (length (sent_by seat.monitor.trail)) seat.got)
    → ((q : ℕ) → has work' q ≡ (not (empty && q == mon.0) && has work q))
    → ChecksNothing S L F j seats mon (set seats (mon.0 - 1) seat) raises work'
check_stays S L F j seats raises work work' mon seat sent empty h busy at answer sent_is empty_is left =
    let s = story_in S L F j seats in
    let m = h.within mon.0 busy in
    let here = seat_is S L F j seats raises work mon.0 seat h m at in
    let own = trail_is S L F j seats mon.0 seat h.story m at in
    let idle : due_at (setup_of s mon.0) (trail_of s mon.0) ≡ None =
    ap₂ (λ (a : MonitorSetup) (b : List Entry). due_at a b) (sym here.setup) own ∙ none_due seat.monitor.setup seat.monitor.trail answer in
    let same = unchanged seats (mon.0 - 1) seat at in
    let after : Holds S L F j seats raises work' = record {
      story = h.story;
      seats_are = h.seats_are;
      room = h.room;
      within = λ q at_work. h.within q (and_parts (not (empty && q == mon.0)) (has work q) (sym (left q) ∙ at_work)).1;
      resting = λ q r none. left_rest S L F j seats work mon.0 q empty (h.resting q r) (sym (left q) ∙ none)
          (λ is_empty same_q. subst (λ (z : ℕ). IsResting (setup_of s z) (trail_of s z) j z) (sym same_q)
          (let both = and_parts (nat_le sent seat.taken) (nat_le (length (sent_by seat.monitor.trail)) seat.got) (sym empty_is ∙ is_empty) in
          let low = leb-true sent seat.taken both.0 in
          let high = leb-true (length (sent_by seat.monitor.trail)) seat.got both.1 in
          let walked : length (taken_by (trail_of s mon.0)) ≡ seat.taken = ap (λ (t : List Entry). length (taken_by t)) own ∙ sym here.taken in
          let sent_too : length (sent_by (trail_of s mon.0)) ≡ length (sent_by seat.monitor.trail) = ap (λ (t : List Entry). length (sent_by t)) own in
          let got = here.got in
          record {
            due = idle;
            down = slice_get_past (frames_to mon.0 j) (length (taken_by (trail_of s mon.0))) (omega (arith, low, walked, sent_is));
            up = slice_get_past (sent_by (trail_of s mon.0)) (length (frames_from mon.0 j)) (omega (arith, high, sent_too, got));
          }));
    } in
    record {
      same = same;
      none = no_check s mon.0 idle;
      holds = subst (λ (xs : List Seat). Holds S L F j xs raises work') (sym same) after;
    }

-- ---- deliveries

pub down_leaves : (S : Setup) (L : LogSet) (F : List (List ℕ)) (j : List Noted) (seats : List Seat) (raises raises' : ℕ) (work : Work) (mon : Mon) (seat : Seat) (new : MonitorView) (frame : Frame)
    → Holds S L F j seats raises work → has work mon.0 ≡ true → seat ≡ get_or seats (mon.0 - 1) seat → slice_get (frames_to mon.0 j) seat.taken ≡ Some frame
    → new ≡ record seat.monitor { trail = after_take seat.monitor.setup seat.monitor.trail frame } → raises' ≡ raises
    → Leaves (story_in S L F j seats) (Down mon) S L F j (set seats (mon.0 - 1) (record { monitor = new; taken = seat.taken + 1; got = seat.got })) raises' work
down_leaves S L F j seats raises raises' work mon seat new frame h busy at next is room =
    let goes = down_goes S L F j seats raises work mon seat frame h (h.within mon.0 busy) at busy next in
    let seats' : MonitorView → List Seat = λ x. set seats (mon.0 - 1) (record { monitor = x; taken = seat.taken + 1; got = seat.got }) in
    let same = ap seats' is in
    record {
      next = goes.0 ∙ ap (λ (xs : List Seat). Some (story_in S L F j xs)) (sym same);
      holds = subst (λ (xs : List Seat). Holds S L F j xs raises' work) (sym same) (subst (λ (r : ℕ). Holds S L F j (seats' (record seat.monitor { trail = after_take seat.monitor.setup seat.monitor.trail frame })) r work) (sym room) goes.1);
    }

-- the end of a list, as a slice from a place on gives it
pub behind : {X : Type 0} (xs : List X) (k : ℕ) → take (length xs - k) (drop k xs) ≡ drop k xs
behind xs k = take_all (length xs - k) (drop k xs) (let e = length-drop k xs in omega (arith, e))

-- the monitors to which the end of a journal sends are at work from then on
pub adds_behind : (new now old before : List Noted) (work work' : Work) → new ≡ now → old ≡ before
    → ((q : ℕ) → has work' q ≡ (has work q || is_sent (take (length now - length before) (drop (length before) now)) q)) → Adds new (length old) work work'
adds_behind new now old before work work' a b each = record {
  is = λ q. each q ∙ ap (λ (xs : List Noted). has work q || is_sent xs q) (behind now (length before) ∙ ap₂ (λ (xs ys : List Noted). drop (length ys) xs) (sym a) (sym b));
}

-- they are monitors of the settings, so at most 64
pub few_behind : (S S' : Setup) (new now before : List Noted) → IsWithinLimits S → S' ≡ S → new ≡ now → All (IsEntryOf S'.monitors S'.objects) new
    → (q : ℕ) → is_sent (take (length now - length before) (drop (length before) now)) q ≡ true → (1 ≤ q) × (q ≤ 64)
few_behind S S' new now before limits same a entries = λ q is.
    let of = sent_within S' new (length before) q entries (ap (λ (xs : List Noted). is_sent xs q) (ap (drop (length before)) a ∙ sym (behind now (length before))) ∙ is) in
    let most = limits.monitors in
    let m : S'.monitors ≡ S.monitors = ap (λ (z : Setup). z.monitors) same in
    (of.0, omega (arith, of.1, most, m))

pub up_leaves : (S S' : Setup) (L : LogSet) (F : List (List ℕ)) (j j' : List Noted) (seats : List Seat) (raises raises' : ℕ) (work work' : Work) (mon : Mon) (seat : Seat) (frame : Frame)
    → Holds S L F j seats raises work → has work mon.0 ≡ true → seat ≡ get_or seats (mon.0 - 1) seat → slice_get (sent_by seat.monitor.trail) seat.got ≡ Some frame
    → S' ≡ S → j' ≡ j ++ turn_of S j (n.Got mon frame) → All (IsEntryOf S'.monitors S'.objects) j' → Adds j' (length j) work work' → raises' ≡ raises
    → Leaves (story_in S L F j seats) (Up mon) S' L F j' (set seats (mon.0 - 1) (record { monitor = seat.monitor; taken = seat.taken; got = seat.got + 1 })) raises' work'
up_leaves S S' L F j j' seats raises raises' work work' mon seat frame h busy at next same grown entries adds room =
    let goes = up_goes S L F j j' seats raises work work' mon seat frame h (h.within mon.0 busy) at busy next grown (subst (λ (z : Setup). All (IsEntryOf z.monitors z.objects) j') same entries) adds in
    let seats' = set seats (mon.0 - 1) (with_got seat) in
    record {
      next = goes.0 ∙ ap (λ (z : Setup). Some (story_in z L F j' seats')) (sym same);
      holds = subst (λ (z : Setup). Holds z L F j' seats' raises' work') (sym same) (subst (λ (r : ℕ). Holds S L F j' seats' r work') (sym room) goes.1);
    }

pub retune_leaves : (S S' : Setup) (L : LogSet) (F : List (List ℕ)) (j j' : List Noted) (seats : List Seat) (raises raises' : ℕ) (work work' : Work) (tuning : Tuning)
    → Holds S L F j seats raises work → retune_refusal_of S j tuning.k tuning.epsilon ≡ None
    → S' ≡ S → j' ≡ j ++ turn_of S j (n.Tuned tuning.k (pos tuning.epsilon)) → All (IsEntryOf S'.monitors S'.objects) j' → Adds j' (length j) work work' → raises' ≡ raises
    → Leaves (story_in S L F j seats) (Retune tuning) S' L F j' seats raises' work'
retune_leaves S S' L F j j' seats raises raises' work work' tuning h none same grown entries adds room =
    let goes = retune_goes S L F j j' seats raises work work' tuning h none grown (subst (λ (z : Setup). All (IsEntryOf z.monitors z.objects) j') same entries) adds in
    record {
      next = goes.0 ∙ ap (λ (z : Setup). Some (story_in z L F j' seats)) (sym same);
      holds = subst (λ (z : Setup). Holds z L F j' seats raises' work') (sym same) (subst (λ (r : ℕ). Holds S L F j' seats r work') (sym room) goes.1);
    }
