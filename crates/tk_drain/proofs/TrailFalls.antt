-- A check that sends and a taken frame fit their records.
use Rattle.tk_frames.specs.declared.frame.Frame.TheVariants as f
use Rattle.std.proofs.Common.{◌≡◌, ℕ, ◌+◌, ◌-◌, ◌≤◌, ◌<◌, ◌||◌, ℤ, ◌+ℤ◌, Bool, true, false, not, List, [], ◌∷◌, ◌++◌, length, map, Option, Some, None, refl, sym, ap, ◌∙◌, subst, arith}
use Rattle.std.specs.Prelude.{nat_lt, is_some, filter_map}
use Rattle.std.specs.List.{list_any}
use Rattle.std.proofs.lemmas.Bool.{false≢true, lt-ltb, or_left, or_right}
use Rattle.std.proofs.lemmas.List.{length-append}
use Rattle.std.proofs.lemmas.List.Folds.{list_any-append}
use Rattle.std.proofs.lemmas.List.Elements.{filter_map-append}
use Rattle.std.proofs.Math.Bool.{or-false}
use Rattle.tk_base.specs.Objects.{objects}
use Rattle.tk_frames.specs.Assigns.{Assign, assign_in}
use Rattle.tk_frames.specs.declared.frame.Frame.{Frame}
use Rattle.tk_input.specs.Logs.{value_of}
use Rattle.tk_journal.specs.Laws.{IsMonitor}
use Rattle.tk_journal.specs.Legal.{start}
use Rattle.tk_journal.specs.Links.{frames_from, frames_to}
use Rattle.tk_journal.specs.Readings.{assigns_sent, factor, members_at}
use Rattle.tk_journal.specs.declared.noted.Noted.{Noted}
use Rattle.tk_trail.specs.Setup.{MonitorSetup}
use Rattle.tk_trail.specs.Frames.{answer_at, due_at, values_at}
use Rattle.tk_trail.specs.Legal.{after_take}
use Rattle.tk_trail.specs.Readings.{places_at, sent_by, seq_of, since_assign, taken_by, value_of_object}
use Rattle.tk_trail.specs.Refusal.{refusal_of}
use Rattle.tk_trail.specs.declared.entry.Entry.{Entry}
use Rattle.tk_trail.specs.declared.entry.Entry.TheVariants.{Took, Sent}
use Rattle.tk_trail.proofs.LegalLemmas.{not_refused}
use Rattle.tk_trail.proofs.PlacesLemmas.{places_at-sent, places_at-took}
use Rattle.tk_trail.proofs.ReadingsLemmas.{sent_by-sent, sent_by-took, taken_by-sent, taken_by-took, seq_of-sent, seq_of-other, since-sent, since-assign, since-collect, since-stop}
use Rattle.tk_drain.specs.Energy.{Local}
use Rattle.tk_drain.specs.Moves.{Checks, Takes}
use Rattle.tk_alloc.specs.Strain.{is_strained}
use Rattle.tk_trail.specs.Still.{is_present, is_raise, is_still}
use Rattle.tk_trail.proofs.DueLemmas.{after_answer, after_check, after_collect, after_stop}
use Rattle.tk_world.specs.Events.{moved, next_down, next_of, with_trail, is_monitor, check_at, down_at}
use Rattle.tk_story.specs.Story.{IsStory, StoryView, setup_of, trail_of}
use Rattle.tk_story.proofs.DownLemmas.{down_is_taken}
use Rattle.tk_story.proofs.QuietLemmas.{joined}
use Rattle.tk_world.proofs.StepLemmas.{next_is, mapped_some, guarded, monitor_is}
use Rattle.tk_drain.specs.Reads.{levels_then, local_of, readings}
use Rattle.tk_drain.proofs.ReadLemmas.{front_length, local_own, others_same, own_now}

-- ---- what an entry leaves of a trail's readings

still_with : (trail : List Entry) (e : Entry) (t' : List Entry) → since_assign t' ≡ since_assign trail ++ e ∷ [] → is_raise e ≡ false → is_still t' ≡ is_still trail
still_with trail e t' since none =
    ap (λ (xs : List Entry). not (list_any is_raise xs)) since
    ∙ ap not (list_any-append is_raise (since_assign trail) (e ∷ []))
    ∙ ap (λ b. not (list_any is_raise (since_assign trail) || (b || false))) none
    ∙ ap not (or-false (list_any is_raise (since_assign trail)))

present_with : (sent : ℕ) (trail t' : List Entry) → seq_of t' ≡ seq_of trail → is_still t' ≡ is_still trail → is_present sent t' ≡ is_present sent trail
present_with sent trail t' seq still = ap (λ n. nat_lt n sent || is_still t') seq ∙ ap (λ b. nat_lt (seq_of trail) sent || b) still

present-sent : (sent : ℕ) (trail : List Entry) (frame : Frame) → is_present sent (trail ++ Sent frame ∷ []) ≡ is_present sent trail
present-sent sent trail frame = present_with sent trail (trail ++ Sent frame ∷ []) (seq_of-sent trail frame) (still_with trail (Sent frame) (trail ++ Sent frame ∷ []) (since-sent trail frame) refl)

strained_with : (setup : MonitorSetup) (trail t' : List Entry) (mon : ℕ) (j : List Noted) → places_at setup t' ≡ places_at setup trail → is_strained (levels_then setup t' mon j) (members_at j) ≡ is_strained (levels_then setup trail mon j) (members_at j)
unfolding value_of_object
strained_with setup trail t' mon j places = ap (λ (ps : List ℕ). is_strained (map (λ o. value_of setup.parts ps o +ℤ factor mon j o) (objects setup.objects)) (members_at j)) places

-- ---- a check

check_by : (s : StoryView) (mon : ℕ) → IsStory s → IsMonitor s.settings mon → (frame : Frame) → due_at (setup_of s mon) (trail_of s mon) ≡ Some frame
    → Checks s.settings.monitors mon (readings s) (readings (with_trail s mon (trail_of s mon ++ Sent frame ∷ [])))
check_by s mon h m frame due =
    let setup = setup_of s mon in
    let trail = trail_of s mon in
    let t' = trail ++ Sent frame ∷ [] in
    let s' = with_trail s mon t' in
    let j = s.journal in
    let was = local_own s mon m in
    let now = own_now s h mon m t' in
    let a : (local_of s mon).up ≡ length (sent_by trail) - length (frames_from mon j) = ap (λ (l : Local). l.up) was in
    let b : (local_of s' mon).up ≡ length (sent_by t') - length (frames_from mon j) = ap (λ (l : Local). l.up) now in
    let c = front_length (frames_from mon j) (sent_by trail) (h.links mon m).up in
    let d = ap (λ (xs : List Frame). length xs) (sent_by-sent trail frame) in
    let e = length-append (sent_by trail) (frame ∷ []) in
    let up : (local_of s' mon).up ≡ (local_of s mon).up + 1 = omega (arith, a, b, c, d, e) in
    record {
      from_one = m.from_one;
      within = m.within;
      waiting = refl;
      wide = refl;
      stopped = refl;
      streak = refl;
      others = others_same s mon m t';
      up = up;
      down = ap (λ (l : Local). l.down) now ∙ ap (λ (xs : List Frame). length (frames_to mon j) - length xs) (taken_by-sent trail frame) ∙ sym (ap (λ (l : Local). l.down) was);
      was_due = ap (λ (l : Local). l.due) was ∙ ap (λ (x : Option Frame). is_some x) due;
      not_due = ap (λ (l : Local). l.due) now ∙ after_check setup trail frame due;
      present = ap (λ (l : Local). l.present) now ∙ present-sent (assigns_sent mon j) trail frame ∙ sym (ap (λ (l : Local). l.present) was);
      strained = ap (λ (l : Local). l.strained) now ∙ strained_with setup trail t' mon j (places_at-sent setup trail frame) ∙ sym (ap (λ (l : Local). l.strained) was);
    }

pub check_fits : (s t : StoryView) (mon : ℕ) → IsStory s → next_of s (check_at mon) ≡ Some t → Checks s.settings.monitors mon (readings s) (readings t)
unfolding next_of
check_fits s t mon h is =
    let g = guarded (is_monitor s mon) (moved s (check_at mon)) t is in
    let x = mapped_some (λ frame. with_trail s mon (trail_of s mon ++ Sent frame ∷ [])) (due_at (setup_of s mon) (trail_of s mon)) t g.1 in
    subst (λ u. Checks s.settings.monitors mon (readings s) (readings u)) x.2 (check_by s mon h (monitor_is s mon g.0) x.0 x.1)

-- ---- a taken frame

record AfterTake (setup : MonitorSetup) (trail t' : List Entry) (frame : Frame) (sent : ℕ) : Type 0 where
  up : length (sent_by t') ≤ length (sent_by trail) + 1
  taken : taken_by t' ≡ taken_by trail ++ frame ∷ []
  due : is_some (due_at setup t') ≡ true → is_some (due_at setup trail) ≡ true
  present : is_present sent t' ≡ is_present sent trail
  places : places_at setup t' ≡ places_at setup trail

answered : (setup : MonitorSetup) (trail : List Entry) (frame answer : Frame) (sent : ℕ) → let t' = trail ++ Took frame ∷ [] ++ Sent answer ∷ [] in
    (is_some (due_at setup t') ≡ true → is_some (due_at setup trail) ≡ true) → is_present sent t' ≡ is_present sent trail → AfterTake setup trail t' frame sent
answered setup trail frame answer sent due present =
    let taken = trail ++ Took frame ∷ [] in
    let a = ap (λ (xs : List Frame). length xs) (sent_by-sent taken answer) in
    let b = length-append (sent_by taken) (answer ∷ []) in
    let c = ap (λ (xs : List Frame). length xs) (sent_by-took trail frame) in
    record {
      up = omega (arith, a, b, c);
      taken = taken_by-sent taken answer ∙ taken_by-took trail frame;
      due = due;
      present = present;
      places = places_at-sent setup taken answer ∙ places_at-took setup trail frame;
    }

no_longer : (b c : Bool) → b ≡ false → b ≡ true → c ≡ true
no_longer b c none is = absurd (false≢true (sym none ∙ is))

taken_by_kind : (setup : MonitorSetup) (trail : List Entry) (frame : Frame) (sent : ℕ) → refusal_of setup trail frame ≡ None → ((seq : ℕ) (members : List ℕ) (changes : List (ℕ × ℤ)) → frame ≡ f.Assign seq members changes → seq_of trail < sent)
    → AfterTake setup trail (after_take setup trail frame) frame sent
taken_by_kind setup trail (f.Assign seq members changes) sent none behind =
    let frame = f.Assign seq members changes in
    let taken = trail ++ Took frame ∷ [] in
    let answer = answer_at setup taken in
    let still : is_still (taken ++ Sent answer ∷ []) ≡ true = ap (λ (xs : List Entry). not (list_any is_raise xs)) (since-sent taken answer ∙ ap (λ (xs : List Entry). xs ++ Sent answer ∷ []) (since-assign trail seq members changes)) in
    answered setup trail frame answer sent (no_longer _ _ (after_answer setup taken))
    (or_right (nat_lt (seq_of (taken ++ Sent answer ∷ [])) sent) (is_still (taken ++ Sent answer ∷ [])) still ∙ sym (or_left (nat_lt (seq_of trail) sent) (is_still trail) (lt-ltb (seq_of trail) sent (behind seq members changes refl))))
taken_by_kind setup trail (f.Collect round asked) sent none behind =
    let frame = f.Collect round asked in
    let taken = trail ++ Took frame ∷ [] in
    let answer = values_at setup taken round asked in
    answered setup trail frame answer sent (λ is. sym (after_collect setup trail round asked) ∙ is)
    (present-sent sent taken answer ∙ present_with sent trail taken (seq_of-other trail frame refl) (still_with trail (Took frame) taken (since-collect trail round asked) refl))
taken_by_kind setup trail f.Stop sent none behind =
    let taken = trail ++ Took f.Stop ∷ [] in
    let c = ap (λ (xs : List Frame). length xs) (sent_by-took trail f.Stop) in
    record {
      up = omega (arith, c);
      taken = taken_by-took trail f.Stop;
      due = λ is. sym (after_stop setup trail) ∙ is;
      present = present_with sent trail taken (seq_of-other trail f.Stop refl) (still_with trail (Took f.Stop) taken (since-stop trail) refl);
      places = places_at-took setup trail f.Stop;
    }
taken_by_kind setup trail (f.Hello run version mon) sent none behind = absurd (let go = (not_refused setup trail (f.Hello run version mon) none).1 in cc)
taken_by_kind setup trail (f.Report seq border failed values) sent none behind = absurd (let go = (not_refused setup trail (f.Report seq border failed values) none).1 in cc)
taken_by_kind setup trail (f.Values round seq border values) sent none behind = absurd (let go = (not_refused setup trail (f.Values round seq border values) none).1 in cc)
taken_by_kind setup trail (f.Settled seq last places) sent none behind = absurd (let go = (not_refused setup trail (f.Settled seq last places) none).1 in cc)

behind_assign : (trail : List Entry) (mon : ℕ) (j : List Noted) (frame : Frame) (rest : List Frame) → frames_to mon j ≡ taken_by trail ++ frame ∷ rest → (seq : ℕ) (members : List ℕ) (changes : List (ℕ × ℤ)) → frame ≡ f.Assign seq members changes → seq_of trail < assigns_sent mon j
unfolding assigns_sent
behind_assign trail mon j frame rest is seq members changes kind =
    let a = ap (λ (xs : List Frame). length (filter_map assign_in xs)) (is ∙ ap (λ g. taken_by trail ++ g ∷ rest) kind) in
    let b = ap (λ (xs : List Assign). length xs) (filter_map-append assign_in (taken_by trail) (f.Assign seq members changes ∷ rest)) in
    let c = length-append (filter_map assign_in (taken_by trail)) (filter_map assign_in (f.Assign seq members changes ∷ rest)) in
    omega (arith, a, b, c)

down_by : (s : StoryView) (mon : ℕ) → IsStory s → IsMonitor s.settings mon → (frame : Frame) → next_down s mon ≡ Some frame
    → Takes s.settings.monitors mon (readings s) (readings (with_trail s mon (after_take (setup_of s mon) (trail_of s mon) frame)))
down_by s mon h m frame next =
    let setup = setup_of s mon in
    let trail = trail_of s mon in
    let t' = after_take setup trail frame in
    let s' = with_trail s mon t' in
    let j = s.journal in
    let link = h.links mon m in
    let is = next_is (taken_by trail) (frames_to mon j) frame link.down next in
    let none = down_is_taken (start s.settings) j mon setup trail frame is.rest (joined s h mon m) refl is.is in
    let k = taken_by_kind setup trail frame (assigns_sent mon j) none (behind_assign trail mon j frame is.rest is.is) in
    let was = local_own s mon m in
    let now = own_now s h mon m t' in
    let a : (local_of s mon).up ≡ length (sent_by trail) - length (frames_from mon j) = ap (λ (l : Local). l.up) was in
    let b : (local_of s' mon).up ≡ length (sent_by t') - length (frames_from mon j) = ap (λ (l : Local). l.up) now in
    let c = k.up in
    let up : (local_of s' mon).up ≤ (local_of s mon).up + 1 = omega (arith, a, b, c) in
    let p : (local_of s mon).down ≡ length (frames_to mon j) - length (taken_by trail) = ap (λ (l : Local). l.down) was in
    let q : (local_of s' mon).down ≡ length (frames_to mon j) - length (taken_by t') = ap (λ (l : Local). l.down) now in
    let r = ap (λ (xs : List Frame). length xs) is.is in
    let u = length-append (taken_by trail) (frame ∷ is.rest) in
    let v = ap (λ (xs : List Frame). length xs) k.taken in
    let w = length-append (taken_by trail) (frame ∷ []) in
    let down : (local_of s mon).down ≡ (local_of s' mon).down + 1 = omega (arith, p, q, r, u, v, w) in
    record {
      from_one = m.from_one;
      within = m.within;
      waiting = refl;
      wide = refl;
      stopped = refl;
      streak = refl;
      others = others_same s mon m t';
      up = up;
      down = down;
      due = λ is'. ap (λ (l : Local). l.due) was ∙ k.due (sym (ap (λ (l : Local). l.due) now) ∙ is');
      present = ap (λ (l : Local). l.present) now ∙ k.present ∙ sym (ap (λ (l : Local). l.present) was);
      strained = ap (λ (l : Local). l.strained) now ∙ strained_with setup trail t' mon j k.places ∙ sym (ap (λ (l : Local). l.strained) was);
    }

pub down_fits : (s t : StoryView) (mon : ℕ) → IsStory s → next_of s (down_at mon) ≡ Some t → Takes s.settings.monitors mon (readings s) (readings t)
unfolding next_of
down_fits s t mon h is =
    let g = guarded (is_monitor s mon) (moved s (down_at mon)) t is in
    let x = mapped_some (λ frame. with_trail s mon (after_take (setup_of s mon) (trail_of s mon) frame)) (next_down s mon) t g.1 in
    subst (λ u. Takes s.settings.monitors mon (readings s) (readings u)) x.2 (down_by s mon h (monitor_is s mon g.0) x.0 x.1)
