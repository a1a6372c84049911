-- The readings of all seats of a world: the cut, and whether the story is quiet.
use Rattle.std.proofs.Common.{◌≡◌, ℕ, ◌+◌, ◌-◌, ◌≤◌, ◌<◌, ◌&&◌, not, true, false, List, length, map, get_or, refl, sym, ap, ap₂, ◌∙◌, subst, arith}
use Rattle.std.specs.Prelude.{nat_le}
use Rattle.std.specs.List.{range_with_len}
use Rattle.std.proofs.lemmas.Bool.{and_from, and_parts, le-leb, leb-true, not-true}
use Rattle.std.proofs.lemmas.List.{get_or-map, get_or_default, length-map, same_lists}
use Rattle.std.proofs.lemmas.List.FromFn.{get_or-map-range_with_len, length-map-range_with_len}
use Rattle.std.proofs.lemmas.Option.{slice_get_past}
use Rattle.tk_base.specs.Settings.{Setup}
use Rattle.tk_frames.specs.declared.frame.Frame.{Frame}
use Rattle.tk_input.specs.Logs.{LogSet}
use Rattle.tk_journal.specs.Laws.{IsMonitor}
use Rattle.tk_journal.specs.Links.{frames_from, frames_to}
use Rattle.tk_journal.specs.Readings.{monitors}
use Rattle.tk_journal.specs.declared.noted.Noted.{Noted}
use Rattle.tk_trail.specs.Readings.{is_broken, places_at, sent_by, taken_by}
use Rattle.tk_trail.specs.Setup.{MonitorSetup}
use Rattle.tk_trail.specs.declared.entry.Entry.{Entry}
use Rattle.tk_story.specs.Moments.{IsQuiet, cut_of}
use Rattle.tk_story.specs.Story.{IsStory, StoryView, setup_of, trail_of}
use Rattle.tk_story.proofs.QuietLemmas.{empty_links_close}
use Rattle.tk_world.specs.Nodes.{fresh_seat}
use Rattle.tk_world.specs.Seats.{Holds, IsSeat, is_quiet_seat, places_in, story_in}
use Rattle.tk_world.specs.declared.seat.Seat.{Seat}
use Rattle.tk_world.specs.declared.work.Work.{Work}
use Rattle.tk_world.proofs.IdleLemmas.{all_passed}
use Rattle.tk_world.proofs.SeatLemmas.{inside, seat_count, trail_is}

-- ---- the seat of a monitor, whatever stands for none

own_trail : (S : Setup) (L : LogSet) (F : List (List ℕ)) (j : List Noted) (seats : List Seat) (mon : ℕ) (d : Seat) → IsStory (story_in S L F j seats) → IsMonitor S mon → trail_of (story_in S L F j seats) mon ≡ (get_or seats (mon - 1) d).monitor.trail
own_trail S L F j seats mon d h m =
    trail_is S L F j seats mon (get_or seats (mon - 1) d) h m (get_or_default seats (mon - 1) d (get_or seats (mon - 1) d) (inside S L F j seats mon h m))

-- ---- the cut

unfolding_cut : (s : StoryView) → map (λ mon. places_at (setup_of s mon) (trail_of s mon)) (monitors s.settings) ≡ cut_of s
unfolding cut_of
unfolding_cut s = refl

pub cut_is : (S : Setup) (L : LogSet) (F : List (List ℕ)) (j : List Noted) (seats : List Seat) (raises : ℕ) (work : Work) → Holds S L F j seats raises work → map places_in seats ≡ cut_of (story_in S L F j seats)
cut_is S L F j seats raises work h =
    let s = story_in S L F j seats in
    let at : ℕ → List ℕ = λ mon. places_at (setup_of s mon) (trail_of s mon) in
    let count = seat_count S L F j seats h.story in
    same_lists (map places_in seats) (map at (range_with_len 1 S.monitors))
    (length-map seats places_in ∙ count ∙ sym (length-map-range_with_len at 1 S.monitors))
    (λ k d below.
    let within : k < length seats = (let e = length-map seats places_in in omega (arith, below, e)) in
    let none = fresh_seat S L F 1 in
    let m : IsMonitor S (k + 1) = record { from_one = omega arith; within = omega (arith, within, count) } in
    let place : k + 1 - 1 ≡ k = omega arith in
    let is = h.seats_are (k + 1) none m in
    let own = own_trail S L F j seats (k + 1) none h.story m in
    get_or-map places_in seats k none d within
    ∙ ap (λ (i : ℕ). places_in (get_or seats i none)) (sym place)
    ∙ ap₂ (λ (a : MonitorSetup) (t : List Entry). places_at a t) is.setup (sym own)
    ∙ sym (get_or-map-range_with_len at 1 S.monitors k (k + 1) d (omega (arith, within, count)) (omega arith)))
    ∙ unfolding_cut s

-- ---- quiet

pub all_quiet : (S : Setup) (L : LogSet) (F : List (List ℕ)) (j : List Noted) (seats : List Seat) (raises : ℕ) (work : Work) → Holds S L F j seats raises work
    → ((k : ℕ) (d : Seat) → k < length seats → is_quiet_seat (length (frames_to (k + 1) j)) (get_or seats k d) ≡ true) → IsQuiet (story_in S L F j seats)
all_quiet S L F j seats raises work h each =
    let s = story_in S L F j seats in
    let none = fresh_seat S L F 1 in
    let here : (mon : ℕ) → IsMonitor S mon → is_quiet_seat (length (frames_to mon j)) (get_or seats (mon - 1) none) ≡ true = λ mon m.
    subst (λ (n : ℕ). is_quiet_seat (length (frames_to n j)) (get_or seats (mon - 1) none) ≡ true) (let a = m.from_one in omega (arith, a)) (each (mon - 1) none (inside S L F j seats mon h.story m)) in
    let parts : (mon : ℕ) → IsMonitor S mon → (length (frames_to mon j) ≤ (get_or seats (mon - 1) none).taken) × (length (sent_by (get_or seats (mon - 1) none).monitor.trail) ≤ (get_or seats (mon - 1) none).got) × (is_broken (get_or seats (mon - 1) none).monitor.setup (get_or seats (mon - 1) none).monitor.trail ≡ false) = λ mon m.
    let seat = get_or seats (mon - 1) none in
    let low = nat_le (length (frames_to mon j)) seat.taken in
    let high = nat_le (length (sent_by seat.monitor.trail)) seat.got in
    let both = and_parts (low && high) (not (is_broken seat.monitor.setup seat.monitor.trail)) (here mon m) in
    let links = and_parts low high both.0 in
    (leb-true (length (frames_to mon j)) seat.taken links.0, leb-true (length (sent_by seat.monitor.trail)) seat.got links.1, not-true (is_broken seat.monitor.setup seat.monitor.trail) both.1) in
    let down : (mon : ℕ) → IsMonitor S mon → taken_by (trail_of s mon) ≡ frames_to mon j = λ mon m.
    let is = (h.seats_are mon none m).taken in
    let own = ap (λ (t : List Entry). length (taken_by t)) (own_trail S L F j seats mon none h.story m) in
    let low = (parts mon m).0 in
    all_passed (taken_by (trail_of s mon)) (frames_to mon j) (h.story.links mon m).down (slice_get_past (frames_to mon j) (length (taken_by (trail_of s mon))) (omega (arith, is, own, low))) in
    let up : (mon : ℕ) → IsMonitor S mon → frames_from mon j ≡ sent_by (trail_of s mon) = λ mon m.
    let is = (h.seats_are mon none m).got in
    let own = ap (λ (t : List Entry). length (sent_by t)) (own_trail S L F j seats mon none h.story m) in
    let high = (parts mon m).1 in
    all_passed (frames_from mon j) (sent_by (trail_of s mon)) (h.story.links mon m).up (slice_get_past (sent_by (trail_of s mon)) (length (frames_from mon j)) (omega (arith, is, own, high))) in
    record {
      down = down;
      up = up;
      closed = empty_links_close s h.story down up;
      sound = λ mon m. ap₂ (λ (a : MonitorSetup) (t : List Entry). is_broken a t) (sym (h.seats_are mon none m).setup) (own_trail S L F j seats mon none h.story m) ∙ (parts mon m).2;
    }

pub told_quiet : (S : Setup) (L : LogSet) (F : List (List ℕ)) (j : List Noted) (seats : List Seat) (raises : ℕ) (work : Work) → Holds S L F j seats raises work → IsQuiet (story_in S L F j seats)
    → (k : ℕ) (d : Seat) → k < length seats → is_quiet_seat (length (frames_to (k + 1) j)) (get_or seats k d) ≡ true
told_quiet S L F j seats raises work h quiet = λ k d within.
    let mon = k + 1 in
    let count = seat_count S L F j seats h.story in
    let m : IsMonitor S mon = record { from_one = omega arith; within = omega (arith, within, count) } in
    let place : k + 1 - 1 ≡ k = omega arith in
    let is : IsSeat (story_in S L F j seats) mon (get_or seats k d) = subst (λ (i : ℕ). IsSeat (story_in S L F j seats) mon (get_or seats i d)) place (h.seats_are mon d m) in
    let own : trail_of (story_in S L F j seats) mon ≡ (get_or seats k d).monitor.trail = own_trail S L F j seats mon d h.story m ∙ ap (λ (i : ℕ). (get_or seats i d).monitor.trail) place in
    let seat = get_or seats k d in
    let down = ap (λ (xs : List Frame). length xs) (quiet.down mon m) in
    let up = ap (λ (xs : List Frame). length xs) (quiet.up mon m) in
    let taken = is.taken in
    let got = is.got in
    let walked = ap (λ (t : List Entry). length (taken_by t)) own in
    let sent = ap (λ (t : List Entry). length (sent_by t)) own in
    and_from (nat_le (length (frames_to mon j)) seat.taken && nat_le (length (sent_by seat.monitor.trail)) seat.got) (not (is_broken seat.monitor.setup seat.monitor.trail))
    (and_from (nat_le (length (frames_to mon j)) seat.taken) (nat_le (length (sent_by seat.monitor.trail)) seat.got)
    (le-leb (length (frames_to mon j)) seat.taken (omega (arith, down, taken, walked)))
    (le-leb (length (sent_by seat.monitor.trail)) seat.got (omega (arith, up, got, sent))))
    (ap not (ap₂ (λ (a : MonitorSetup) (t : List Entry). is_broken a t) is.setup (sym own) ∙ quiet.sound mon m))
