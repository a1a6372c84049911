-- What each event leaves of a world.
use Rattle.std.proofs.Common.{◌≡◌, ℕ, ◌+◌, ◌-◌, ◌≤◌, ◌<◌, ◌&&◌, not, true, false, List, [], ◌∷◌, ◌++◌, length, set, get_or, Some, None, refl, sym, ap, ap₂, ◌∙◌, subst, arith}
use Rattle.std.specs.Prelude.{sum_by, slice_get, nat_le, nat_lt, if◌then◌else◌}
use Rattle.std.specs.Option.{option_map}
use Rattle.std.proofs.Math.Bool.{and-false}
use Rattle.std.proofs.lemmas.Bool.{and_from, le-leb, lt-ltb, true≢false}
use Rattle.std.proofs.lemmas.List.{length_push}
use Rattle.std.proofs.lemmas.List.Sums.{get_or-le-sum_by}
use Rattle.tk_base.specs.Settings.{Setup}
use Rattle.tk_base.specs.declared.ids.Feeder.{Feeder}
use Rattle.tk_base.specs.declared.ids.Mon.{Mon}
use Rattle.tk_frames.specs.declared.frame.Frame.{Frame}
use Rattle.tk_input.specs.Logs.{LogSet}
use Rattle.tk_input.specs.declared.event.Event.{Event}
use Rattle.tk_input.specs.declared.event.Event.TheVariants.{Raise, Check, Down}
use Rattle.tk_journal.specs.Laws.{IsMonitor}
use Rattle.tk_journal.specs.Legal.{start}
use Rattle.tk_journal.specs.Links.{frames_from, frames_to}
use Rattle.tk_journal.specs.declared.noted.Noted.{Noted}
use Rattle.tk_monitor.specs.Kept.{left_in}
use Rattle.tk_monitor.proofs.KeptLemmas.{none_when}
use Rattle.tk_monitor.proofs.PartsLemmas.{left_less}
use Rattle.tk_trail.specs.Frames.{answer_to, due_at, end_is_due, may_report, report_is_due}
use Rattle.tk_trail.specs.Legal.{HasNext, after_take, part_length, place_of}
use Rattle.tk_trail.specs.Readings.{at_ends, is_broken, is_end_told, places_at, sent_by, taken_by}
use Rattle.tk_trail.specs.Refusal.{refusal_of}
use Rattle.tk_trail.specs.Setup.{MonitorSetup}
use Rattle.tk_trail.specs.declared.entry.Entry.{Entry}
use Rattle.tk_trail.specs.declared.entry.Entry.TheVariants.{Raised, Took, Sent}
use Rattle.tk_trail.proofs.PlacesLemmas.{answered_places, places_at-raised, places_at-sent, places_at-took}
use Rattle.tk_trail.proofs.ReadingsLemmas.{sent_by-raised, taken_by-raised, taken_by-sent, taken_by-took, answer_taken}
use Rattle.tk_trail.proofs.LegalLemmas.{legal_places}
use Rattle.tk_story.specs.Story.{IsStory, StoryView, setup_of, trail_of}
use Rattle.tk_story.proofs.DownLemmas.{down_is_taken}
use Rattle.tk_story.proofs.QuietLemmas.{joined, starts_at}
use Rattle.tk_world.specs.Events.{has_next, is_of, moved, next_down, next_of, with_trail}
use Rattle.tk_world.specs.Seats.{Holds, IsSeat, left_at, story_in}
use Rattle.tk_world.specs.Work.{has}
use Rattle.tk_world.specs.declared.seat.Seat.{Seat}
use Rattle.tk_world.specs.declared.work.Work.{Work}
use Rattle.tk_world.proofs.IdleLemmas.{is_one}
use Rattle.tk_world.proofs.SeatLemmas.{Works, inside, seat_is, seated, trail_goes, trail_is}
use Rattle.tk_world.proofs.StepLemmas.{next_is, next_is_story}

-- ---- events that are enabled

pub moves : (s t : StoryView) (e : Event) → is_of s e ≡ true → moved s e ≡ Some t → next_of s e ≡ Some t
unfolding next_of
moves s t e of is = ap (λ b. if b then moved s e else None) of ∙ is

-- the seat of a monitor with another trail
abbrev pub with_entries : Seat → List Entry → Seat
with_entries seat trail = record seat { monitor = record seat.monitor { trail = trail } }

-- ---- a raise

next_true : (setup : MonitorSetup) (trail : List Entry) (g : ℕ) → HasNext setup trail g
    → (nat_le 1 g && nat_le g (length setup.parts) && nat_lt (place_of setup trail g) (part_length setup g)) ≡ true
next_true setup trail g h =
    and_from (nat_le 1 g && nat_le g (length setup.parts)) (nat_lt (place_of setup trail g) (part_length setup g))
    (and_from (nat_le 1 g) (nat_le g (length setup.parts)) (le-leb 1 g h.from_one) (le-leb g (length setup.parts) h.one_of))
    (lt-ltb (place_of setup trail g) (part_length setup g) h.not_ended)

-- one change less is left
raised_left : (setup : MonitorSetup) (trail : List Entry) (g : Feeder) → length (places_at setup trail) ≡ length setup.parts → HasNext setup trail g.0
    → left_in setup.parts (places_at setup (trail ++ Raised g ∷ [])) + 1 ≡ left_in setup.parts (places_at setup trail)
raised_left setup trail g shape h =
    let a = h.from_one in
    let b = h.one_of in
    ap (λ (places : List ℕ). left_in setup.parts places + 1) (places_at-raised setup trail g h.from_one)
    ∙ left_less setup.parts (places_at setup trail) (g.0 - 1) (omega (arith, a, b)) (omega (arith, a, b, shape)) h.not_ended

-- nothing is due where nothing is broken and not all parts are at their ends
no_report : (setup : MonitorSetup) (trail : List Entry) → is_broken setup trail ≡ false → report_is_due setup trail ≡ false
unfolding report_is_due
no_report setup trail sound = ap (λ b. may_report trail && b) sound ∙ and-false (may_report trail)

no_end : (setup : MonitorSetup) (trail : List Entry) → at_ends setup trail ≡ false → end_is_due setup trail ≡ false
unfolding end_is_due
no_end setup trail going =
    ap (λ b. may_report trail && not (is_broken setup trail) && b && not (is_end_told trail)) going
    ∙ ap (λ b. b && not (is_end_told trail)) (and-false (may_report trail && not (is_broken setup trail)))

not_due : (setup : MonitorSetup) (trail : List Entry) → is_broken setup trail ≡ false → at_ends setup trail ≡ false → due_at setup trail ≡ None
not_due setup trail sound going = none_when setup trail (no_report setup trail sound) (no_end setup trail going)

-- the places of a seat's trail, one for each part
places_shape : (S : Setup) (L : LogSet) (F : List (List ℕ)) (j : List Noted) (seats : List Seat) (mon : ℕ) (seat : Seat) → IsStory (story_in S L F j seats) → IsMonitor S mon
    → IsSeat (story_in S L F j seats) mon seat → trail_of (story_in S L F j seats) mon ≡ seat.monitor.trail → length (places_at seat.monitor.setup seat.monitor.trail) ≡ length seat.monitor.setup.parts
places_shape S L F j seats mon seat h m is own =
    let s = story_in S L F j seats in
    subst (λ (x : MonitorSetup). length (places_at x seat.monitor.trail) ≡ length x.parts) (sym is.setup)
    (subst (λ (t : List Entry). length (places_at (setup_of s mon) t) ≡ length (setup_of s mon).parts) own
    (legal_places (setup_of s mon) (starts_at s h mon) (trail_of s mon) (h.trails_legal mon m).each).shape)

pub raise_goes : (S : Setup) (L : LogSet) (F : List (List ℕ)) (j : List Noted) (seats : List Seat) (raises : ℕ) (work work' : Work) (mon : Mon) (g : Feeder) (seat : Seat)
    → Holds S L F j seats raises work → IsMonitor S mon.0 → seat ≡ get_or seats (mon.0 - 1) seat → HasNext seat.monitor.setup seat.monitor.trail g.0 → Works S work work'
    → (has work' mon.0 ≡ false → (is_broken seat.monitor.setup (seat.monitor.trail ++ Raised g ∷ []) ≡ false) × (at_ends seat.monitor.setup (seat.monitor.trail ++ Raised g ∷ []) ≡ false))
    → (next_of (story_in S L F j seats) (Raise mon g) ≡ Some (story_in S L F j (set seats (mon.0 - 1) (with_entries seat (seat.monitor.trail ++ Raised g ∷ [])))))
    × (0 < raises)
    × Holds S L F j (set seats (mon.0 - 1) (with_entries seat (seat.monitor.trail ++ Raised g ∷ []))) (raises - 1) work'
raise_goes S L F j seats raises work work' mon g seat h m at next works sound =
    let s = story_in S L F j seats in
    let setup = seat.monitor.setup in
    let trail = seat.monitor.trail in
    let new = with_entries seat (trail ++ Raised g ∷ []) in
    let is = seat_is S L F j seats raises work mon.0 seat h m at in
    let own = trail_is S L F j seats mon.0 seat h.story m at in
    let goes_on : has_next s mon.0 g.0 ≡ true =
    ap₂ (λ (a : MonitorSetup) (b : List Entry). nat_le 1 g.0 && nat_le g.0 (length a.parts) && nat_lt (place_of a b g.0) (part_length a g.0)) (sym is.setup) own ∙ next_true setup trail g.0 next in
    let step : moved s (Raise mon g) ≡ Some (story_in S L F j (set seats (mon.0 - 1) new)) =
    ap (λ b. if b then Some (with_trail s mon.0 (trail_of s mon.0 ++ Raised g ∷ [])) else None) goes_on
    ∙ ap (λ (t : List Entry). Some (with_trail s mon.0 (t ++ Raised g ∷ []))) own
    ∙ ap Some (seated S L F j seats mon.0 new) in
    let leads = moves s (story_in S L F j (set seats (mon.0 - 1) new)) (Raise mon g) (is_one s mon.0 m) step in
    let here = inside S L F j seats mon.0 h.story m in
    let shape : length (places_at setup trail) ≡ length setup.parts = places_shape S L F j seats mon.0 seat h.story m is own in
    let less = raised_left setup trail g shape next in
    let some : left_at seat ≤ sum_by left_at seats = (let most = get_or-le-sum_by left_at seats (mon.0 - 1) seat here in let e : left_at (get_or seats (mon.0 - 1) seat) ≡ left_at seat = ap left_at (sym at) in omega (arith, most, e)) in
    let room = h.room in (
      leads,
      omega (arith, some, less, room),
      trail_goes S L F j seats raises (raises - 1) work work' mon.0 seat new h m at
          (record { setup = refl; taken = is.taken ∙ ap (λ (xs : List Frame). length xs) (sym (taken_by-raised trail g)); got = refl })
          works
          (next_is_story s (story_in S L F j (set seats (mon.0 - 1) new)) (Raise mon g) h.story leads)
          (omega (arith, some, less, room))
          (λ none.
          let both = sound none in
          let was = h.resting mon.0 m (works.more mon.0 none) in
          record {
            due = not_due setup (trail ++ Raised g ∷ []) both.0 both.1;
            down = ap (λ (xs : List Frame). slice_get (frames_to mon.0 j) (length xs)) (taken_by-raised trail g ∙ ap taken_by (sym own)) ∙ was.down;
            up = ap (λ (xs : List Frame). slice_get xs (length (frames_from mon.0 j))) (sent_by-raised trail g ∙ ap sent_by (sym own)) ∙ was.up;
          }),
    )

-- ---- a check that sends

pub check_goes : (S : Setup) (L : LogSet) (F : List (List ℕ)) (j : List Noted) (seats : List Seat) (raises : ℕ) (work : Work) (mon : Mon) (seat : Seat) (frame : Frame)
    → Holds S L F j seats raises work → IsMonitor S mon.0 → seat ≡ get_or seats (mon.0 - 1) seat → has work mon.0 ≡ true → due_at seat.monitor.setup seat.monitor.trail ≡ Some frame
    → (next_of (story_in S L F j seats) (Check mon) ≡ Some (story_in S L F j (set seats (mon.0 - 1) (with_entries seat (seat.monitor.trail ++ Sent frame ∷ [])))))
    × Holds S L F j (set seats (mon.0 - 1) (with_entries seat (seat.monitor.trail ++ Sent frame ∷ []))) raises work
check_goes S L F j seats raises work mon seat frame h m at busy due =
    let s = story_in S L F j seats in
    let setup = seat.monitor.setup in
    let trail = seat.monitor.trail in
    let new = with_entries seat (trail ++ Sent frame ∷ []) in
    let is = seat_is S L F j seats raises work mon.0 seat h m at in
    let own = trail_is S L F j seats mon.0 seat h.story m at in
    let due_there : due_at (setup_of s mon.0) (trail_of s mon.0) ≡ Some frame = ap₂ (λ (a : MonitorSetup) (b : List Entry). due_at a b) (sym is.setup) own ∙ due in
    let step : moved s (Check mon) ≡ Some (story_in S L F j (set seats (mon.0 - 1) new)) =
    ap (option_map (λ frame. with_trail s mon.0 (trail_of s mon.0 ++ Sent frame ∷ []))) due_there
    ∙ ap (λ (t : List Entry). Some (with_trail s mon.0 (t ++ Sent frame ∷ []))) own
    ∙ ap Some (seated S L F j seats mon.0 new) in
    let leads = moves s (story_in S L F j (set seats (mon.0 - 1) new)) (Check mon) (is_one s mon.0 m) step in (
      leads,
      trail_goes S L F j seats raises raises work work mon.0 seat new h m at
          (record { setup = refl; taken = is.taken ∙ ap (λ (xs : List Frame). length xs) (sym (taken_by-sent trail frame)); got = refl })
          (record { within = h.within; more = λ q none. none })
          (next_is_story s (story_in S L F j (set seats (mon.0 - 1) new)) (Check mon) h.story leads)
          (ap (λ (places : List ℕ). raises + left_in setup.parts places) (sym (places_at-sent setup trail frame)))
          (λ none. absurd (true≢false (sym busy ∙ none))),
    )

-- ---- a frame of the coordinator

-- the seat of a monitor that took one frame more
abbrev pub with_taken : Seat → List Entry → Seat
with_taken seat trail = record seat { monitor = record seat.monitor { trail = trail }; taken = seat.taken + 1 }

pub down_taken : (S : Setup) (L : LogSet) (F : List (List ℕ)) (j : List Noted) (seats : List Seat) (raises : ℕ) (work : Work) (mon : Mon) (seat : Seat) (frame : Frame)
    → Holds S L F j seats raises work → IsMonitor S mon.0 → seat ≡ get_or seats (mon.0 - 1) seat → slice_get (frames_to mon.0 j) seat.taken ≡ Some frame
    → refusal_of seat.monitor.setup seat.monitor.trail frame ≡ None
down_taken S L F j seats raises work mon seat frame h m at next =
    let s = story_in S L F j seats in
    let is = seat_is S L F j seats raises work mon.0 seat h m at in
    let own = trail_is S L F j seats mon.0 seat h.story m at in
    let there : slice_get (frames_to mon.0 j) (length (taken_by (trail_of s mon.0))) ≡ Some frame =
    ap (λ (n : ℕ). slice_get (frames_to mon.0 j) n) (ap (λ (t : List Entry). length (taken_by t)) own ∙ sym is.taken) ∙ next in
    let n = next_is (taken_by (trail_of s mon.0)) (frames_to mon.0 j) frame (h.story.links mon.0 m).down there in
    ap₂ (λ (a : MonitorSetup) (b : List Entry). refusal_of a b frame) is.setup (sym own)
    ∙ down_is_taken (start S) j mon.0 (setup_of s mon.0) (trail_of s mon.0) frame n.rest (joined s h.story mon.0 m) refl n.is

pub down_goes : (S : Setup) (L : LogSet) (F : List (List ℕ)) (j : List Noted) (seats : List Seat) (raises : ℕ) (work : Work) (mon : Mon) (seat : Seat) (frame : Frame)
    → Holds S L F j seats raises work → IsMonitor S mon.0 → seat ≡ get_or seats (mon.0 - 1) seat → has work mon.0 ≡ true → slice_get (frames_to mon.0 j) seat.taken ≡ Some frame
    → (next_of (story_in S L F j seats) (Down mon) ≡ Some (story_in S L F j (set seats (mon.0 - 1) (with_taken seat (after_take seat.monitor.setup seat.monitor.trail frame)))))
    × Holds S L F j (set seats (mon.0 - 1) (with_taken seat (after_take seat.monitor.setup seat.monitor.trail frame))) raises work
down_goes S L F j seats raises work mon seat frame h m at busy next =
    let s = story_in S L F j seats in
    let setup = seat.monitor.setup in
    let trail = seat.monitor.trail in
    let took = trail ++ Took frame ∷ [] in
    let new = with_taken seat (after_take setup trail frame) in
    let is = seat_is S L F j seats raises work mon.0 seat h m at in
    let own = trail_is S L F j seats mon.0 seat h.story m at in
    let there : next_down s mon.0 ≡ Some frame =
    ap (λ (n : ℕ). slice_get (frames_to mon.0 j) n) (ap (λ (t : List Entry). length (taken_by t)) own ∙ sym is.taken) ∙ next in
    let step : moved s (Down mon) ≡ Some (story_in S L F j (set seats (mon.0 - 1) new)) =
    ap (option_map (λ frame. with_trail s mon.0 (after_take (setup_of s mon.0) (trail_of s mon.0) frame))) there
    ∙ ap₂ (λ (a : MonitorSetup) (t : List Entry). Some (with_trail s mon.0 (after_take a t frame))) (sym is.setup) own
    ∙ ap Some (seated S L F j seats mon.0 new) in
    let leads = moves s (story_in S L F j (set seats (mon.0 - 1) new)) (Down mon) (is_one s mon.0 m) step in
    let counted : seat.taken + 1 ≡ length (taken_by (after_take setup trail frame)) =
    ap (λ (n : ℕ). n + 1) is.taken
    ∙ sym (length_push (taken_by trail) frame)
    ∙ ap (λ (xs : List Frame). length xs) (sym (answer_taken took (answer_to setup took frame) ∙ taken_by-took trail frame)) in
    let places : places_at setup (after_take setup trail frame) ≡ places_at setup trail = answered_places setup took (answer_to setup took frame) ∙ places_at-took setup trail frame in (
      leads,
      trail_goes S L F j seats raises raises work work mon.0 seat new h m at
          (record { setup = refl; taken = counted; got = refl })
          (record { within = h.within; more = λ q none. none })
          (next_is_story s (story_in S L F j (set seats (mon.0 - 1) new)) (Down mon) h.story leads)
          (ap (λ (places : List ℕ). raises + left_in setup.parts places) (sym places))
          (λ none. absurd (true≢false (sym busy ∙ none))),
    )
