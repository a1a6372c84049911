-- Each state of a run is a moment of the story that it leads to.
use Rattle.tk_journal.specs.declared.noted.Noted.TheVariants as n
use Rattle.std.proofs.Common.{◌≡◌, ℕ, pos, true, List, [], ◌∷◌, ◌++◌, Option, Some, None, refl, sym, ap, ◌∙◌, subst, append_assoc, append-nil, inl, inr}
use Rattle.std.specs.Prelude.{ℤ, is_some}
use Rattle.std.proofs.lemmas.Bool.{cases_eq}
use Rattle.tk_base.specs.History.{IsFront}
use Rattle.tk_base.specs.Settings.{Setup}
use Rattle.tk_base.specs.declared.ids.Mon.{Mon}
use Rattle.tk_frames.specs.declared.frame.Frame.{Frame}
use Rattle.tk_input.specs.declared.event.Event.{Event}
use Rattle.tk_input.specs.declared.event.Event.TheVariants.{Raise, Check, Up, Down, Retune}
use Rattle.tk_journal.specs.Laws.{IsMonitor}
use Rattle.tk_journal.specs.Legal.{turn_of}
use Rattle.tk_journal.specs.Refusal.{retune_refusal_of}
use Rattle.tk_journal.specs.Whole.{BeginsWithInput}
use Rattle.tk_journal.specs.declared.noted.Noted.{Noted}
use Rattle.tk_trail.specs.Frames.{answer_to, due_at}
use Rattle.tk_trail.specs.Legal.{after_take, with_answer}
use Rattle.tk_trail.specs.declared.entry.Entry.{Entry}
use Rattle.tk_trail.specs.declared.entry.Entry.TheVariants.{Raised, Took, Sent}
use Rattle.tk_story.specs.Moments.{IsMoment}
use Rattle.tk_story.specs.Story.{IsStory, StoryView, setup_of, trail_of}
use Rattle.tk_world.specs.Events.{after, has_next, is_of, moved, next_down, next_of, next_up, with_trail, with_turn}
use Rattle.tk_world.proofs.StepLemmas.{front_by, front_more, guarded, if_none, if_some, mapped_some, monitor_is, next_is_story, trail_elsewhere, trail_there}

-- ---- a story is a moment of itself

pub itself : (s : StoryView) → IsStory s → IsMoment s s
itself s h = record {
  settings = refl;
  logs = refl;
  from = refl;
  count = h.count;
  behind = [];
  journal = sym (append-nil s.journal);
  whole = tt;
  trails = λ mon m. front_by (trail_of s mon) (trail_of s mon) [] (sym (append-nil (trail_of s mon)));
  answered = λ mon m. (h.trails_legal mon m).answered;
  links = h.links;
}

-- ---- a moment of a story is one of what an event makes of it

-- one trail goes on
trail_goes : (t s : StoryView) → IsStory s → IsMoment t s → (mon : ℕ) → IsMonitor s.settings mon → (trail : List Entry) → IsFront (trail_of t mon) trail
    → IsMoment t (with_trail s mon trail)
trail_goes t s h is mon m trail front =
    let own = trail_there s h mon m trail in
    let other = trail_elsewhere s mon m trail in
    record {
      settings = is.settings;
      logs = is.logs;
      from = is.from;
      count = is.count;
      behind = is.behind;
      journal = is.journal;
      whole = is.whole;
      trails = λ q r. elim (cases_eq q mon) [
        | inl same ↦
            subst (λ (z : ℕ). IsFront (trail_of t z) (trail_of (with_trail s mon trail) z)) (sym same)
            (subst (λ (xs : List Entry). IsFront (trail_of t mon) xs) (sym own) front)
        | inr apart ↦ subst (λ (xs : List Entry). IsFront (trail_of t q) xs) (sym (other q r apart)) (is.trails q r)
      ];
      answered = is.answered;
      links = is.links;
    }

entry_goes : (t s : StoryView) → IsStory s → IsMoment t s → (mon : ℕ) → IsMonitor s.settings mon → (e : Entry) → IsMoment t (with_trail s mon (trail_of s mon ++ e ∷ []))
entry_goes t s h is mon m e =
    trail_goes t s h is mon m (trail_of s mon ++ e ∷ []) (front_more (trail_of t mon) (trail_of s mon) (e ∷ []) (is.trails mon m))

answer_behind : (xs trail : List Entry) (answer : Option Frame) → IsFront xs trail → IsFront xs (with_answer trail answer)
answer_behind xs trail None h = h
answer_behind xs trail (Some frame) h = front_more xs trail (Sent frame ∷ []) h

take_goes : (t s : StoryView) → IsStory s → IsMoment t s → (mon : ℕ) → IsMonitor s.settings mon → (frame : Frame)
    → IsMoment t (with_trail s mon (after_take (setup_of s mon) (trail_of s mon) frame))
take_goes t s h is mon m frame =
    let taken = trail_of s mon ++ Took frame ∷ [] in
    trail_goes t s h is mon m (after_take (setup_of s mon) (trail_of s mon) frame)
    (answer_behind (trail_of t mon) taken (answer_to (setup_of s mon) taken frame) (front_more (trail_of t mon) (trail_of s mon) (Took frame ∷ []) (is.trails mon m)))

-- the journal goes on by a turn
begins_on : (xs ys : List Noted) → BeginsWithInput xs → BeginsWithInput ys → BeginsWithInput (xs ++ ys)
begins_on [] ys left right = right
begins_on (x ∷ xs) ys left right = left

turn_goes : (t s : StoryView) → IsMoment t s → (input : Noted) → BeginsWithInput (turn_of s.settings s.journal input) → IsMoment t (with_turn s input)
turn_goes t s is input begins =
    let turn = turn_of s.settings s.journal input in
    record {
      settings = is.settings;
      logs = is.logs;
      from = is.from;
      count = is.count;
      behind = is.behind ++ turn;
      journal = ap (λ xs. xs ++ turn) is.journal ∙ append_assoc t.journal is.behind turn;
      whole = begins_on is.behind turn is.whole begins;
      trails = is.trails;
      answered = is.answered;
      links = is.links;
    }

got_begins : (s : Setup) (before : List Noted) (mon : Mon) (frame : Frame) → BeginsWithInput (turn_of s before (n.Got mon frame))
unfolding turn_of
got_begins s before mon frame = refl

tuned_begins : (s : Setup) (before : List Noted) (k : ℕ) (epsilon : ℤ) → BeginsWithInput (turn_of s before (n.Tuned k epsilon))
unfolding turn_of
tuned_begins s before k epsilon = refl

-- by the kinds of event
moved_moment : (t s u : StoryView) (e : Event) → IsStory s → IsMoment t s → is_of s e ≡ true → moved s e ≡ Some u → IsMoment t u
moved_moment t s u (Raise mon g) h is of step =
    let x = if_some (has_next s mon.0 g.0) (with_trail s mon.0 (trail_of s mon.0 ++ Raised g ∷ [])) u step in
    subst (IsMoment t) x.1 (entry_goes t s h is mon.0 (monitor_is s mon.0 of) (Raised g))
moved_moment t s u (Check mon) h is of step =
    let x = mapped_some (λ frame. with_trail s mon.0 (trail_of s mon.0 ++ Sent frame ∷ [])) (due_at (setup_of s mon.0) (trail_of s mon.0)) u step in
    subst (IsMoment t) x.2 (entry_goes t s h is mon.0 (monitor_is s mon.0 of) (Sent x.0))
moved_moment t s u (Up mon) h is of step =
    let x = mapped_some (λ frame. with_turn s (n.Got mon frame)) (next_up s mon.0) u step in
    subst (IsMoment t) x.2 (turn_goes t s is (n.Got mon x.0) (got_begins s.settings s.journal mon x.0))
moved_moment t s u (Down mon) h is of step =
    let x = mapped_some (λ frame. with_trail s mon.0 (after_take (setup_of s mon.0) (trail_of s mon.0) frame)) (next_down s mon.0) u step in
    subst (IsMoment t) x.2 (take_goes t s h is mon.0 (monitor_is s mon.0 of) x.0)
moved_moment t s u (Retune tuning) h is of step =
    let input = n.Tuned tuning.k (pos tuning.epsilon) in
    let x = if_none (is_some (retune_refusal_of s.settings s.journal tuning.k tuning.epsilon)) (with_turn s input) u step in
    subst (IsMoment t) x.1 (turn_goes t s is input (tuned_begins s.settings s.journal tuning.k (pos tuning.epsilon)))

pub moment_stays : (t s u : StoryView) (e : Event) → IsStory s → IsMoment t s → next_of s e ≡ Some u → IsMoment t u
unfolding next_of
moment_stays t s u e h is next = let g = guarded (is_of s e) (moved s e) u next in moved_moment t s u e h is g.0 g.1

-- ---- by the events of a run

moment_from : (t s end : StoryView) (e : Event) (events : List Event) (o : Option StoryView) → next_of s e ≡ o → after o events ≡ Some end → IsStory s → IsMoment t s
    → ((u : StoryView) → IsStory u → IsMoment t u → after (Some u) events ≡ Some end → IsMoment t end) → IsMoment t end
moment_from t s end e events None next run h is rest = absurd (cc)
moment_from t s end e events (Some u) next run h is rest = rest u (next_is_story s u e h next) (moment_stays t s u e h is next) run

moment_after : (t s end : StoryView) (events : List Event) → IsStory s → IsMoment t s → after (Some s) events ≡ Some end → IsMoment t end
moment_after t s end [] h is run = let same : s ≡ end = cc in subst (IsMoment t) same is
moment_after t s end (e ∷ events) h is run =
    moment_from t s end e events (next_of s e) refl run h is (λ u hu mu more. moment_after t u end events hu mu more)

pub state_is_moment : (t s : StoryView) (events : List Event) → IsStory t → after (Some t) events ≡ Some s → IsMoment t s
state_is_moment t s events h run = moment_after t t s events h (itself t h) run
