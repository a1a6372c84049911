-- The seats of a world, and what each event leaves of them.
use Rattle.std.proofs.Common.{◌≡◌, ℕ, ◌+◌, ◌-◌, ◌<◌, true, false, List, [], length, set, get_or, refl, sym, ap, ◌∙◌, subst, arith, inl, inr}
use Rattle.std.proofs.lemmas.Bool.{cases_eq}
use Rattle.std.proofs.lemmas.List.{get_or-map, get_or-set_same, get_or-set_other, length-map, length-set, map-set}
use Rattle.std.proofs.lemmas.List.Sums.{sum_by-set}
use Rattle.tk_base.specs.Settings.{Setup}
use Rattle.tk_input.specs.Logs.{LogSet}
use Rattle.tk_journal.specs.Laws.{IsMonitor}
use Rattle.tk_journal.specs.declared.noted.Noted.{Noted}
use Rattle.tk_trail.specs.Readings.{taken_by}
use Rattle.tk_trail.specs.Setup.{MonitorSetup}
use Rattle.tk_trail.specs.declared.entry.Entry.{Entry}
use Rattle.tk_story.specs.Story.{IsStory, setup_of, trail_of}
use Rattle.tk_world.specs.Events.{with_trail}
use Rattle.tk_world.specs.Seats.{Holds, IsResting, IsSeat, left_at, story_in}
use Rattle.tk_world.specs.Work.{has}
use Rattle.tk_world.specs.declared.seat.Seat.{Seat}
use Rattle.tk_world.specs.declared.work.Work.{Work}

-- ---- one seat

pub seat_count : (S : Setup) (L : LogSet) (F : List (List ℕ)) (j : List Noted) (seats : List Seat) → IsStory (story_in S L F j seats) → length seats ≡ S.monitors
seat_count S L F j seats h = sym (length-map seats (λ (seat : Seat). seat.monitor.trail)) ∙ h.count

pub inside : (S : Setup) (L : LogSet) (F : List (List ℕ)) (j : List Noted) (seats : List Seat) (mon : ℕ) → IsStory (story_in S L F j seats) → IsMonitor S mon → mon - 1 < length seats
inside S L F j seats mon h m = let count = seat_count S L F j seats h in let a = m.from_one in let b = m.within in omega (arith, count, a, b)

-- the seat that is read at the place of a monitor, and its trail
pub seat_is : (S : Setup) (L : LogSet) (F : List (List ℕ)) (j : List Noted) (seats : List Seat) (raises : ℕ) (work : Work) (mon : ℕ) (seat : Seat) → Holds S L F j seats raises work → IsMonitor S mon → seat ≡ get_or seats (mon - 1) seat → IsSeat (story_in S L F j seats) mon seat
seat_is S L F j seats raises work mon seat h m at = subst (IsSeat (story_in S L F j seats) mon) (sym at) (h.seats_are mon seat m)

pub trail_is : (S : Setup) (L : LogSet) (F : List (List ℕ)) (j : List Noted) (seats : List Seat) (mon : ℕ) (seat : Seat) → IsStory (story_in S L F j seats) → IsMonitor S mon → seat ≡ get_or seats (mon - 1) seat → trail_of (story_in S L F j seats) mon ≡ seat.monitor.trail
trail_is S L F j seats mon seat h m at =
    get_or-map (λ (s : Seat). s.monitor.trail) seats (mon - 1) seat [] (inside S L F j seats mon h m) ∙ ap (λ (s : Seat). s.monitor.trail) (sym at)

-- another seat in its place
pub seated : (S : Setup) (L : LogSet) (F : List (List ℕ)) (j : List Noted) (seats : List Seat) (mon : ℕ) (new : Seat) → with_trail (story_in S L F j seats) mon new.monitor.trail ≡ story_in S L F j (set seats (mon - 1) new)
seated S L F j seats mon new = ap (λ (trails : List (List Entry)). record { settings = S; logs = L; from = F; journal = j; trails = trails }) (sym (map-set (λ (s : Seat). s.monitor.trail) seats (mon - 1) new))

-- ---- the seats once one trail goes on

pub record Goes (S : Setup) (mon : ℕ) (seat new : Seat) : Type 0 where
  pub setup : new.monitor.setup ≡ seat.monitor.setup
  pub taken : new.taken ≡ length (taken_by new.monitor.trail)
  pub got : new.got ≡ seat.got

-- the monitors at work, once more of them are
pub record Works (S : Setup) (work new : Work) : Type 0 where
  pub within : (q : ℕ) → has new q ≡ true → IsMonitor S q
  pub more : (q : ℕ) → has new q ≡ false → has work q ≡ false

resting_by : (setup setup' : MonitorSetup) (trail trail' : List Entry) (j : List Noted) (mon : ℕ) → setup' ≡ setup → trail' ≡ trail → IsResting setup trail j mon → IsResting setup' trail' j mon
resting_by setup setup' trail trail' j mon a b h = subst (λ (x : MonitorSetup). IsResting x trail' j mon) (sym a) (subst (λ (x : List Entry). IsResting setup x j mon) (sym b) h)

pub trail_goes : (S : Setup) (L : LogSet) (F : List (List ℕ)) (j : List Noted) (seats : List Seat) (raises more : ℕ) (work work' : Work) (mon : ℕ) (seat new : Seat)
    → Holds S L F j seats raises work → IsMonitor S mon → seat ≡ get_or seats (mon - 1) seat → Goes S mon seat new → Works S work work'
    → IsStory (story_in S L F j (set seats (mon - 1) new)) → more + left_at seat ≡ raises + left_at new → (has work' mon ≡ false → IsResting seat.monitor.setup new.monitor.trail j mon)
    → Holds S L F j (set seats (mon - 1) new) more work'
trail_goes S L F j seats raises more work work' mon seat new h m at goes works story left rest =
    let s = story_in S L F j seats in
    let t = story_in S L F j (set seats (mon - 1) new) in
    let here = inside S L F j seats mon h.story m in
    let is = seat_is S L F j seats raises work mon seat h m at in
    let other : (q : ℕ) (d : Seat) → IsMonitor S q → (q ≡ mon → ⊥) → get_or (set seats (mon - 1) new) (q - 1) d ≡ get_or seats (q - 1) d = λ q d r apart.
    get_or-set_other seats (mon - 1) (q - 1) new d (λ same. apart (let a = m.from_one in let b = r.from_one in omega (arith, a, b, same))) in
    let own : (d : Seat) → get_or (set seats (mon - 1) new) (mon - 1) d ≡ new = λ d. get_or-set_same seats (mon - 1) new d here in
    let apart_trail : (q : ℕ) → IsMonitor S q → (q ≡ mon → ⊥) → trail_of t q ≡ trail_of s q = λ q r apart.
    let place = inside S L F j seats q h.story r in
    get_or-map (λ (x : Seat). x.monitor.trail) (set seats (mon - 1) new) (q - 1) seat [] (let c = length-set seats (mon - 1) new in omega (arith, c, place))
    ∙ ap (λ (x : Seat). x.monitor.trail) (other q seat r apart)
    ∙ sym (get_or-map (λ (x : Seat). x.monitor.trail) seats (q - 1) seat [] place) in
    let own_trail : trail_of t mon ≡ new.monitor.trail =
    get_or-map (λ (x : Seat). x.monitor.trail) (set seats (mon - 1) new) (mon - 1) seat [] (let c = length-set seats (mon - 1) new in omega (arith, c, here)) ∙ ap (λ (x : Seat). x.monitor.trail) (own seat) in
    record {
      story = story;
      seats_are = λ q d r. elim (cases_eq q mon) [
        | inl same ↦ subst (λ (z : ℕ). IsSeat t z (get_or (set seats (mon - 1) new) (z - 1) d)) (sym same) (subst (IsSeat t mon) (sym (own d)) (record { setup = goes.setup ∙ is.setup; taken = goes.taken; got = goes.got ∙ is.got }))
        | inr apart ↦ let before = h.seats_are q d r in subst (IsSeat t q) (sym (other q d r apart)) (record { setup = before.setup; taken = before.taken; got = before.got })
      ];
      room =
          let sums = sum_by-set left_at seats (mon - 1) new seat here in
          let was : left_at (get_or seats (mon - 1) seat) ≡ left_at seat = ap left_at (sym at) in
          let before = h.room in
          omega (arith, sums, was, left, before);
      within = works.within;
      resting = λ q r none. elim (cases_eq q mon) [
        | inl same ↦
            subst (λ (z : ℕ). IsResting (setup_of t z) (trail_of t z) j z) (sym same)
            (resting_by seat.monitor.setup (setup_of t mon) new.monitor.trail (trail_of t mon) j mon (sym is.setup) own_trail (rest (ap (has work') (sym same) ∙ none)))
        | inr apart ↦ resting_by (setup_of s q) (setup_of t q) (trail_of s q) (trail_of t q) j q refl (apart_trail q r apart) (h.resting q r (works.more q none))
      ];
    }
