-- Settling raises nothing: a story whose parts are at their ends settles into one that is over.
use Rattle.tk_journal.specs.declared.noted.Noted.TheVariants as n
use Rattle.std.proofs.Common.{◌≡◌, ℕ, ◌-◌, ◌==◌, true, List, [], ◌∷◌, ◌++◌, length, Some, refl, sym, ap, ◌∙◌, subst, arith, inl, inr}
use Rattle.std.specs.List.{list_all, zip}
use Rattle.std.proofs.lemmas.Bool.{and_parts, cases_eq, false≢true}
use Rattle.std.proofs.lemmas.List.{get_or-set_other}
use Rattle.tk_frames.specs.declared.frame.Frame.{Frame}
use Rattle.tk_journal.specs.Laws.{IsMonitor}
use Rattle.tk_trail.specs.Setup.{MonitorSetup}
use Rattle.tk_trail.specs.Frames.{answer_to, due_at}
use Rattle.tk_trail.specs.Legal.{after_take}
use Rattle.tk_trail.specs.Readings.{at_ends, places_at}
use Rattle.tk_trail.specs.declared.entry.Entry.{Entry}
use Rattle.tk_trail.specs.declared.entry.Entry.TheVariants.{Took, Sent}
use Rattle.tk_trail.proofs.PlacesLemmas.{answered_places, places_at-sent, places_at-took}
use Rattle.tk_input.specs.declared.event.Event.{Event}
use Rattle.tk_world.specs.Events.{CanOnlyChange, after, is_monitor, moved, next_down, next_of, next_up, with_trail, with_turn}
use Rattle.tk_input.specs.declared.event.Event.TheVariants.{Raise, Check, Up, Down, Retune}
use Rattle.tk_story.specs.Story.{IsStory, StoryView, setup_of, trail_of}
use Rattle.tk_story.specs.Moments.{IsOver}
use Rattle.tk_world.proofs.IdleLemmas.{idle_is_still}
use Rattle.tk_story.proofs.OverLemmas.{still_is_over}
use Rattle.tk_world.proofs.StepLemmas.{next_is_story, mapped_some, guarded, monitor_is, trail_there}
use Rattle.tk_drain.specs.Settling.{is_settling}
use Rattle.tk_drain.proofs.SettleLemmas.{lower_from}

-- the parts of each monitor are at their ends
abbrev pub AtEnds : StoryView → Type 0
AtEnds s = (mon : ℕ) → IsMonitor s.settings mon → at_ends (setup_of s mon) (trail_of s mon) ≡ true

ends_by : (setup : MonitorSetup) (a b : List Entry) → places_at setup b ≡ places_at setup a → at_ends setup b ≡ at_ends setup a
unfolding at_ends
ends_by setup a b places = ap (λ (ps : List ℕ). list_all (λ p. p.1 == length p.0) (zip setup.parts ps)) places

pub after_places : (setup : MonitorSetup) (trail : List Entry) (frame : Frame) → places_at setup (after_take setup trail frame) ≡ places_at setup trail
after_places setup trail frame = answered_places setup (trail ++ Took frame ∷ []) (answer_to setup (trail ++ Took frame ∷ []) frame) ∙ places_at-took setup trail frame

trail_ends : (s : StoryView) → IsStory s → (mon : ℕ) → IsMonitor s.settings mon → (trail : List Entry) → places_at (setup_of s mon) trail ≡ places_at (setup_of s mon) (trail_of s mon) → AtEnds s → AtEnds (with_trail s mon trail)
trail_ends s h mon m trail places ends q r = elim (cases_eq q mon) [
  | inl same ↦
      subst (λ (z : ℕ). at_ends (setup_of s z) (trail_of (with_trail s mon trail) z) ≡ true) (sym same)
      (ap (at_ends (setup_of s mon)) (trail_there s h mon m trail) ∙ ends_by (setup_of s mon) (trail_of s mon) trail places ∙ ends mon m)
  | inr apart ↦
      ap (at_ends (setup_of s q)) (get_or-set_other s.trails (mon - 1) (q - 1) trail [] (λ same. apart (let a = m.from_one in let b = r.from_one in omega (arith, a, b, same)))) ∙ ends q r
]

event_ends : (s t : StoryView) (e : Event) → IsStory s → is_settling e ≡ true → next_of s e ≡ Some t → AtEnds s → AtEnds t
unfolding next_of
event_ends s t (Raise mon g) h of is ends = absurd (false≢true of)
event_ends s t (Check mon) h of is ends =
    let g = guarded (is_monitor s mon.0) (moved s (Check mon)) t is in
    let x = mapped_some (λ frame. with_trail s mon.0 (trail_of s mon.0 ++ Sent frame ∷ [])) (due_at (setup_of s mon.0) (trail_of s mon.0)) t g.1 in
    subst AtEnds x.2 (trail_ends s h mon.0 (monitor_is s mon.0 g.0) (trail_of s mon.0 ++ Sent x.0 ∷ []) (places_at-sent (setup_of s mon.0) (trail_of s mon.0) x.0) ends)
event_ends s t (Down mon) h of is ends =
    let g = guarded (is_monitor s mon.0) (moved s (Down mon)) t is in
    let x = mapped_some (λ frame. with_trail s mon.0 (after_take (setup_of s mon.0) (trail_of s mon.0) frame)) (next_down s mon.0) t g.1 in
    subst AtEnds x.2 (trail_ends s h mon.0 (monitor_is s mon.0 g.0) (after_take (setup_of s mon.0) (trail_of s mon.0) x.0) (after_places (setup_of s mon.0) (trail_of s mon.0) x.0) ends)
event_ends s t (Up mon) h of is ends =
    let g = guarded (is_monitor s mon.0) (moved s (Up mon)) t is in
    let x = mapped_some (λ frame. with_turn s (n.Got (record { 0 = mon.0 }) frame)) (next_up s mon.0) t g.1 in
    subst AtEnds x.2 ends
event_ends s t (Retune tuning) h of is ends = absurd (false≢true of)

run_ends : (s t : StoryView) (events : List Event) → IsStory s → list_all is_settling events ≡ true → after (Some s) events ≡ Some t → AtEnds s → IsStory t × AtEnds t
run_ends s t [] h of is ends = let same : s ≡ t = cc in (subst IsStory same h, subst AtEnds same ends)
run_ends s t (e ∷ events) h of is ends =
    let both = and_parts (is_settling e) (list_all is_settling events) of in
    lower_from s t e events (next_of s e) (IsStory t × AtEnds t) refl is (λ u some rest. run_ends u t events (next_is_story s u e h some) both.1 rest (event_ends s u e h both.0 some ends))

pub settled_is_over : (s t : StoryView) (events : List Event) → IsStory s → AtEnds s → list_all is_settling events ≡ true → after (Some s) events ≡ Some t → CanOnlyChange t → IsOver t
settled_is_over s t events h ends of is idle =
    let x = run_ends s t events h of is ends in
    still_is_over t x.0 (idle_is_still t x.0 idle) x.1
