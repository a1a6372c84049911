-- What a turn of the coordinator leaves of a world.
use Rattle.tk_journal.specs.declared.noted.Noted.TheVariants as n
use Rattle.std.proofs.Common.{◌≡◌, ℕ, ◌+◌, ◌-◌, ◌≤◌, ◌||◌, All, Bool, true, false, List, [], ◌++◌, length, set, get_or, drop, Option, Some, None, refl, sym, ap, ap₂, ◌∙◌, subst, arith, append-nil, inl, inr}
use Rattle.std.specs.Prelude.{pos, sum_by, slice_get, is_some, if◌then◌else◌}
use Rattle.std.specs.List.{cons_option}
use Rattle.std.specs.Option.{option_map}
use Rattle.std.proofs.Math.Seq.{drop-append_seam}
use Rattle.std.proofs.lemmas.Bool.{cases_eq, eq-eqb, ne_eqb, true≢false, or_parts, or_cases}
use Rattle.std.proofs.lemmas.List.{get_or-set_same, get_or-set_other, length_push, map-set, set-get_or}
use Rattle.std.proofs.lemmas.List.Elements.{All-drop}
use Rattle.std.proofs.lemmas.List.Sums.{sum_by-set}
use Rattle.tk_base.specs.Settings.{Setup}
use Rattle.tk_base.specs.declared.ids.Mon.{Mon}
use Rattle.tk_frames.specs.declared.frame.Frame.{Frame}
use Rattle.tk_input.specs.Event.{Tuning}
use Rattle.tk_input.specs.Logs.{LogSet}
use Rattle.tk_input.specs.declared.event.Event.TheVariants.{Up, Retune}
use Rattle.tk_journal.specs.Entries.{IsEntryOf}
use Rattle.tk_journal.specs.Laws.{IsMonitor}
use Rattle.tk_journal.specs.Legal.{IsAccepted, start, turn_of}
use Rattle.tk_journal.specs.Links.{frames_from, frames_to, got_from}
use Rattle.tk_journal.specs.Refusal.{refusal_of as refusal_up, retune_refusal_of}
use Rattle.tk_journal.specs.declared.noted.Noted.{Noted}
use Rattle.tk_journal.specs.declared.refusal.RetuneRefusal.{RetuneRefusal}
use Rattle.tk_journal.proofs.Appends.{frames_to-append}
use Rattle.tk_trail.specs.Readings.{sent_by, taken_by}
use Rattle.tk_trail.specs.declared.entry.Entry.{Entry}
use Rattle.tk_story.specs.Story.{IsStory, StoryView, setup_of, trail_of}
use Rattle.tk_story.proofs.QuietLemmas.{joined, setup_is}
use Rattle.tk_story.proofs.UpLemmas.{up_is_taken}
use Rattle.tk_world.specs.Events.{moved, next_of, next_up, with_turn}
use Rattle.tk_world.specs.Seats.{Holds, IsResting, IsSeat, left_at, story_in, trails_of}
use Rattle.tk_world.specs.Work.{has, is_sent}
use Rattle.tk_world.specs.declared.seat.Seat.{Seat}
use Rattle.tk_world.specs.declared.work.Work.{Work}
use Rattle.tk_world.proofs.EventLemmas.{moves}
use Rattle.tk_world.proofs.IdleLemmas.{is_one}
use Rattle.tk_world.proofs.RestLemmas.{none_sent, sent_is_monitor}
use Rattle.tk_world.proofs.SeatLemmas.{inside, seat_is, trail_is}
use Rattle.tk_world.proofs.StepLemmas.{next_is, next_is_story, turn_from}

-- ---- the monitors to which a turn sends

-- what a journal sends behind a place, it sends to monitors
pub sent_within : (S : Setup) (j : List Noted) (k q : ℕ) → All (IsEntryOf S.monitors S.objects) j → is_sent (drop k j) q ≡ true → (1 ≤ q) × (q ≤ S.monitors)
sent_within S j k q of is = sent_is_monitor S.monitors S.objects (drop k j) q (All-drop (IsEntryOf S.monitors S.objects) k j of) is

-- the monitors at work, once those are to which the entries behind a place of a journal send
pub record Adds (j : List Noted) (k : ℕ) (work new : Work) : Type 0 where
  pub is : (q : ℕ) → has new q ≡ (has work q || is_sent (drop k j) q)

-- ---- a turn

pub record Turns (S : Setup) (L : LogSet) (F : List (List ℕ)) (j j' : List Noted) (seats seats' : List Seat) (input : Noted) : Type 0 where
  pub is : j' ≡ j ++ turn_of S j input
  pub accepted : IsAccepted S j input
  pub story : IsStory (story_in S L F j' seats')
  pub entries : All (IsEntryOf S.monitors S.objects) j'
  pub trails : trails_of seats' ≡ trails_of seats
  pub left : sum_by left_at seats' ≡ sum_by left_at seats
  pub each : (mon : ℕ) (d : Seat) → IsMonitor S mon → IsSeat (story_in S L F j' seats') mon (get_or seats' (mon - 1) d)

pub turn_goes : (S : Setup) (L : LogSet) (F : List (List ℕ)) (j j' : List Noted) (seats seats' : List Seat) (raises : ℕ) (work work' : Work) (input : Noted)
    → Holds S L F j seats raises work → Turns S L F j j' seats seats' input → Adds j' (length j) work work'
    → ((q : ℕ) → IsMonitor S q → has work q ≡ false → got_from q input ≡ None) → Holds S L F j' seats' raises work'
turn_goes S L F j j' seats seats' raises work work' input h t adds apart =
    let s = story_in S L F j seats in
    let turn = turn_of S j input in
    record {
      story = t.story;
      seats_are = t.each;
      room = h.room ∙ sym t.left;
      within = λ q at_work. elim (or_cases (has work q) (is_sent (drop (length j) j') q) (sym (adds.is q) ∙ at_work)) [
        | inl before ↦ h.within q before
        | inr now ↦ let of = sent_within S j' (length j) q t.entries now in record { from_one = of.0; within = of.1 }
      ];
      resting = λ q m none.
          let both = or_parts (has work q) (is_sent (drop (length j) j') q) (sym (adds.is q) ∙ none) in
          let was = h.resting q m both.0 in
          let behind : drop (length j) j' ≡ turn = ap (drop (length j)) t.is ∙ drop-append_seam j turn in
          let unsent : frames_to q turn ≡ [] = ap (frames_to q) (sym behind) ∙ none_sent (drop (length j) j') q both.1 in
          let down : frames_to q j' ≡ frames_to q j = ap (frames_to q) t.is ∙ frames_to-append q j turn ∙ ap (λ (xs : List Frame). frames_to q j ++ xs) unsent ∙ append-nil (frames_to q j) in
          let up : frames_from q j' ≡ frames_from q j =
          ap (frames_from q) t.is ∙ turn_from s input q t.accepted ∙ ap (λ (o : Option Frame). frames_from q j ++ cons_option o []) (apart q m both.0) ∙ append-nil (frames_from q j) in
          let same : trail_of (story_in S L F j' seats') q ≡ trail_of s q = ap (λ (ts : List (List Entry)). get_or ts (q - 1) []) t.trails in
          subst (λ (x : List Entry). IsResting (setup_of s q) x j' q) (sym same)
          (record {
            due = was.due;
            down = ap (λ (xs : List Frame). slice_get xs (length (taken_by (trail_of s q)))) down ∙ was.down;
            up = ap (λ (xs : List Frame). slice_get (sent_by (trail_of s q)) (length xs)) up ∙ was.up;
          });
    }

-- ---- a frame of a monitor

pub up_taken : (S : Setup) (L : LogSet) (F : List (List ℕ)) (j : List Noted) (seats : List Seat) (raises : ℕ) (work : Work) (mon : Mon) (seat : Seat) (frame : Frame)
    → Holds S L F j seats raises work → IsMonitor S mon.0 → seat ≡ get_or seats (mon.0 - 1) seat → slice_get (sent_by seat.monitor.trail) seat.got ≡ Some frame
    → refusal_up S j mon.0 frame ≡ None
up_taken S L F j seats raises work mon seat frame h m at next =
    let s = story_in S L F j seats in
    let is = seat_is S L F j seats raises work mon.0 seat h m at in
    let own = trail_is S L F j seats mon.0 seat h.story m at in
    let there : slice_get (sent_by (trail_of s mon.0)) (length (frames_from mon.0 j)) ≡ Some frame =
    ap₂ (λ (t : List Entry) (n : ℕ). slice_get (sent_by t) n) own (sym is.got) ∙ next in
    let n = next_is (frames_from mon.0 j) (sent_by (trail_of s mon.0)) frame (h.story.links mon.0 m).up there in
    up_is_taken (start S) j mon.0 (setup_of s mon.0) (trail_of s mon.0) frame n.rest (joined s h.story mon.0 m) (setup_is s h.story mon.0 m) refl n.is

-- the seat of a monitor of which one frame more was taken
abbrev pub with_got : Seat → Seat
with_got seat = record seat { got = seat.got + 1 }

pub up_goes : (S : Setup) (L : LogSet) (F : List (List ℕ)) (j j' : List Noted) (seats : List Seat) (raises : ℕ) (work work' : Work) (mon : Mon) (seat : Seat) (frame : Frame)
    → Holds S L F j seats raises work → IsMonitor S mon.0 → seat ≡ get_or seats (mon.0 - 1) seat → has work mon.0 ≡ true → slice_get (sent_by seat.monitor.trail) seat.got ≡ Some frame
    → j' ≡ j ++ turn_of S j (n.Got mon frame) → All (IsEntryOf S.monitors S.objects) j' → Adds j' (length j) work work'
    → (next_of (story_in S L F j seats) (Up mon) ≡ Some (story_in S L F j' (set seats (mon.0 - 1) (with_got seat))))
    × Holds S L F j' (set seats (mon.0 - 1) (with_got seat)) raises work'
up_goes S L F j j' seats raises work work' mon seat frame h m at busy next grown entries adds =
    let s = story_in S L F j seats in
    let seats' = set seats (mon.0 - 1) (with_got seat) in
    let here = inside S L F j seats mon.0 h.story m in
    let is = seat_is S L F j seats raises work mon.0 seat h m at in
    let own = trail_is S L F j seats mon.0 seat h.story m at in
    let trails : trails_of seats' ≡ trails_of seats =
    map-set (λ (x : Seat). x.monitor.trail) seats (mon.0 - 1) (with_got seat)
    ∙ sym (map-set (λ (x : Seat). x.monitor.trail) seats (mon.0 - 1) seat)
    ∙ ap (λ (xs : List Seat). trails_of xs) (ap (set seats (mon.0 - 1)) at ∙ set-get_or seats (mon.0 - 1) seat) in
    let there : next_up s mon.0 ≡ Some frame = ap₂ (λ (t : List Entry) (n : ℕ). slice_get (sent_by t) n) own (sym is.got) ∙ next in
    let step : moved s (Up mon) ≡ Some (story_in S L F j' seats') =
    ap (option_map (λ frame. with_turn s (n.Got mon frame))) there
    ∙ ap₂ (λ (k : List Noted) (ts : List (List Entry)). Some (record { settings = S; logs = L; from = F; journal = k; trails = ts })) (sym grown) (sym trails) in
    let leads = moves s (story_in S L F j' seats') (Up mon) (is_one s mon.0 m) step in
    let accepted : IsAccepted S j (n.Got mon frame) = (m.from_one, m.within, up_taken S L F j seats raises work mon seat frame h m at next) in
    let froms : (q : ℕ) → frames_from q j' ≡ frames_from q j ++ cons_option (got_from q (n.Got mon frame)) [] = λ q. ap (frames_from q) grown ∙ turn_from s (n.Got mon frame) q accepted in
    let others : (q : ℕ) → (q ≡ mon.0 → ⊥) → got_from q (n.Got mon frame) ≡ None = λ q other. ap (λ b. if b then Some frame else None) (ne_eqb mon.0 q (λ same. other (sym same))) in (
      leads,
      turn_goes S L F j j' seats seats' raises work work' (n.Got mon frame) h
          (record {
            is = grown;
            accepted = accepted;
            story = next_is_story s (story_in S L F j' seats') (Up mon) h.story leads;
            entries = entries;
            trails = trails;
            left = (let sums = sum_by-set left_at seats (mon.0 - 1) (with_got seat) seat here in let was : left_at (get_or seats (mon.0 - 1) seat) ≡ left_at seat = ap left_at (sym at) in omega (arith, sums, was));
            each = λ q d r. elim (cases_eq q mon.0) [
              | inl same ↦
                  subst (λ (z : ℕ). IsSeat (story_in S L F j' seats') z (get_or seats' (z - 1) d)) (sym same)
                  (subst (IsSeat (story_in S L F j' seats') mon.0) (sym (get_or-set_same seats (mon.0 - 1) (with_got seat) d here))
                  (record {
                    setup = is.setup;
                    taken = is.taken;
                    got =
                        ap (λ (n : ℕ). n + 1) is.got
                        ∙ sym (length_push (frames_from mon.0 j) frame)
                        ∙ ap (λ (b : Bool). length (frames_from mon.0 j ++ cons_option (if b then Some frame else None) [])) (sym (eq-eqb mon.0 mon.0 refl))
                        ∙ ap (λ (xs : List Frame). length xs) (sym (froms mon.0));
                  }))
              | inr other ↦
                  let was = h.seats_are q d r in
                  subst (IsSeat (story_in S L F j' seats') q) (sym (get_or-set_other seats (mon.0 - 1) (q - 1) (with_got seat) d (λ same. other (let a = m.from_one in let b = r.from_one in omega (arith, a, b, same)))))
                  (record {
                    setup = was.setup;
                    taken = was.taken;
                    got =
                        was.got
                        ∙ ap (λ (xs : List Frame). length xs) (sym (append-nil (frames_from q j)))
                        ∙ ap (λ (o : Option Frame). length (frames_from q j ++ cons_option o [])) (sym (others q other))
                        ∙ ap (λ (xs : List Frame). length xs) (sym (froms q));
                  })
            ];
          })
          adds
          (λ q r none. others q (λ same. absurd (true≢false (sym busy ∙ ap (has work) (sym same) ∙ none)))),
    )

-- ---- another k and epsilon

pub retune_goes : (S : Setup) (L : LogSet) (F : List (List ℕ)) (j j' : List Noted) (seats : List Seat) (raises : ℕ) (work work' : Work) (tuning : Tuning)
    → Holds S L F j seats raises work → retune_refusal_of S j tuning.k tuning.epsilon ≡ None
    → j' ≡ j ++ turn_of S j (n.Tuned tuning.k (pos tuning.epsilon)) → All (IsEntryOf S.monitors S.objects) j' → Adds j' (length j) work work'
    → (next_of (story_in S L F j seats) (Retune tuning) ≡ Some (story_in S L F j' seats)) × Holds S L F j' seats raises work'
retune_goes S L F j j' seats raises work work' tuning h none grown entries adds =
    let s = story_in S L F j seats in
    let input = n.Tuned tuning.k (pos tuning.epsilon) in
    let step : moved s (Retune tuning) ≡ Some (story_in S L F j' seats) =
    ap (λ (o : Option RetuneRefusal). if is_some o then None else Some (with_turn s input)) none
    ∙ ap (λ (k : List Noted). Some (story_in S L F k seats)) (sym grown) in
    let leads = moves s (story_in S L F j' seats) (Retune tuning) refl step in
    let accepted : IsAccepted S j input = (tuning.epsilon, refl, none) in (
      leads,
      turn_goes S L F j j' seats seats raises work work' input h
          (record {
            is = grown;
            accepted = accepted;
            story = next_is_story s (story_in S L F j' seats) (Retune tuning) h.story leads;
            entries = entries;
            trails = refl;
            left = refl;
            each = λ q d r.
                let was = h.seats_are q d r in
                record {
                  setup = was.setup;
                  taken = was.taken;
                  got =
                      was.got
                      ∙ ap (λ (xs : List Frame). length xs) (sym (append-nil (frames_from q j)))
                      ∙ ap (λ (xs : List Frame). length xs) (sym (ap (frames_from q) grown ∙ turn_from s input q accepted));
                };
          })
          adds
          (λ q r no_work. refl),
    )

-- a retune that is refused is not enabled
pub retune_stays : (s : StoryView) (tuning : Tuning) (why : RetuneRefusal) → retune_refusal_of s.settings s.journal tuning.k tuning.epsilon ≡ Some why → next_of s (Retune tuning) ≡ None
unfolding next_of
retune_stays s tuning why is = ap (λ (o : Option RetuneRefusal). if is_some o then None else Some (with_turn s (n.Tuned tuning.k (pos tuning.epsilon)))) is
