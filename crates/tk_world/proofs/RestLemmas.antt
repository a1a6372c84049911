-- Monitors at rest: nothing is due, and both links are empty.
use Rattle.std.proofs.Common.{◌≡◌, ℕ, suc, ◌≤◌, ◌<◌, ◌==◌, Bool, true, false, List, [], ◌∷◌, ◌++◌, All, Option, Some, None, refl, sym, ap, ◌∙◌, arith, inl, inr}
use Rattle.std.specs.Prelude.{if◌then◌else◌}
use Rattle.std.specs.List.{cons_option}
use Rattle.std.proofs.lemmas.Map.Views.{exact_unsigned_eq}
use Rattle.tk_base.specs.declared.ids.Mon.{Mon}
use Rattle.tk_journal.specs.Entries.{IsEntryOf}
use Rattle.std.specs.Option.{option_map}
use Rattle.std.proofs.lemmas.Bool.{cases_eq, eq-eqb, false≢true, ne_eqb, true≢false, or_parts, or_cases}
use Rattle.tk_frames.specs.declared.frame.Frame.{Frame}
use Rattle.tk_journal.specs.Laws.{IsMonitor}
use Rattle.tk_journal.specs.Links.{frames_to}
use Rattle.tk_journal.specs.declared.noted.Noted.{Noted}
use Rattle.tk_journal.specs.declared.noted.Noted.TheVariants as n
use Rattle.tk_trail.specs.Frames.{due_at}
use Rattle.tk_trail.specs.Legal.{after_take}
use Rattle.tk_trail.specs.declared.entry.Entry.TheVariants.{Sent}
use Rattle.tk_input.specs.declared.event.Event.{Event}
use Rattle.tk_story.specs.Story.{StoryView, setup_of, trail_of}
use Rattle.tk_world.specs.Events.{CanOnlyChange, check_at, down_at, is_monitor, is_of, moved, next_down, next_of, next_up, up_at, with_trail, with_turn}
use Rattle.tk_world.specs.Seats.{IsResting}
use Rattle.tk_world.specs.Work.{is_sent}
use Rattle.tk_world.specs.World.{IsAtRest}
use Rattle.tk_world.proofs.StepLemmas.{monitor_is}

-- ---- what is not enabled

pub stays : (s : StoryView) (e : Event) → moved s e ≡ None → next_of s e ≡ None
unfolding next_of
stays s e none = elim (is_of s e) as (λ b. (if b then moved s e else None) ≡ None) [ true ↦ none | false ↦ refl ]

pub not_of : (s : StoryView) (e : Event) → is_of s e ≡ false → next_of s e ≡ None
unfolding next_of
not_of s e other = ap (λ b. if b then moved s e else None) other

unmoved : {X Y : Type 0} (g : X → Y) (o : Option X) → o ≡ None → option_map g o ≡ None
unmoved g o none = ap (option_map g) none

pub no_check : (s : StoryView) (mon : ℕ) → due_at (setup_of s mon) (trail_of s mon) ≡ None → next_of s (check_at mon) ≡ None
no_check s mon none = stays s (check_at mon) (unmoved (λ frame. with_trail s mon (trail_of s mon ++ Sent frame ∷ [])) (due_at (setup_of s mon) (trail_of s mon)) none)

pub no_up : (s : StoryView) (mon : ℕ) → next_up s mon ≡ None → next_of s (up_at mon) ≡ None
no_up s mon none = stays s (up_at mon) (unmoved (λ frame. with_turn s (n.Got (record { 0 = mon }) frame)) (next_up s mon) none)

pub no_down : (s : StoryView) (mon : ℕ) → next_down s mon ≡ None → next_of s (down_at mon) ≡ None
no_down s mon none = stays s (down_at mon) (unmoved (λ frame. with_trail s mon (after_take (setup_of s mon) (trail_of s mon) frame)) (next_down s mon) none)

-- a number that is none of a monitor is at rest, and a monitor where nothing is due and both links are empty
rest_by : (s : StoryView) (mon : ℕ) (b : Bool) → is_monitor s mon ≡ b → (IsMonitor s.settings mon → IsResting (setup_of s mon) (trail_of s mon) s.journal mon) → IsAtRest s mon
rest_by s mon true is rest =
    let r = rest (monitor_is s mon is) in
    record { check = no_check s mon r.due; up = no_up s mon r.up; down = no_down s mon r.down }
rest_by s mon false is rest = record { check = not_of s (check_at mon) is; up = not_of s (up_at mon) is; down = not_of s (down_at mon) is }

pub at_rest : (s : StoryView) (mon : ℕ) → (IsMonitor s.settings mon → IsResting (setup_of s mon) (trail_of s mon) s.journal mon) → IsAtRest s mon
at_rest s mon rest = rest_by s mon (is_monitor s mon) refl rest

pub all_rest : (s : StoryView) → ((mon : ℕ) → IsAtRest s mon) → CanOnlyChange s
all_rest s rest = record { check = λ mon m. (rest mon).check; up = λ mon m. (rest mon).up; down = λ mon m. (rest mon).down }

-- ---- what some entries send

-- a frame that is not chosen is left out
pub not_passed : (b : Bool) (frame : Frame) (frames : List Frame) → b ≡ false → cons_option (if b then Some frame else None) frames ≡ frames
not_passed true frame frames none = absurd (true≢false none)
not_passed false frame frames none = refl

pub none_sent : (entries : List Noted) (mon : ℕ) → is_sent entries mon ≡ false → frames_to mon entries ≡ []
none_sent [] mon none = refl
none_sent (n.Got from frame ∷ entries) mon none = none_sent entries mon none
none_sent (n.Published publication ∷ entries) mon none = none_sent entries mon none
none_sent (n.Tuned k epsilon ∷ entries) mon none = none_sent entries mon none
none_sent (n.Sent to frame ∷ entries) mon none =
    let both = or_parts (mon == to.0) (is_sent entries mon) none in
    not_passed (to.0 == mon) frame (frames_to mon entries) (elim (cases_eq to.0 mon) [
      | inl same ↦ absurd (true≢false (sym (eq-eqb mon to.0 (sym same)) ∙ both.0))
      | inr apart ↦ ne_eqb to.0 mon apart
    ]) ∙ none_sent entries mon both.1

-- what a journal sends, it sends to monitors
is_one_of : (m : ℕ) (to : Mon) (mon : ℕ) → (0 < to.0) × (to.0 ≤ m) → (mon == to.0) ≡ true → (1 ≤ mon) × (mon ≤ m)
is_one_of m to mon of same = let e : mon ≡ to.0 = exact_unsigned_eq mon to.0 same in (omega (arith, e, of.0), omega (arith, e, of.1))

first_of_all : (m objects : ℕ) (e : Noted) (entries : List Noted) → All (IsEntryOf m objects) (e ∷ entries) → IsEntryOf m objects e
first_of_all m objects e entries of = of 0 e (omega arith)

rest_of_all : (m objects : ℕ) (e : Noted) (entries : List Noted) → All (IsEntryOf m objects) (e ∷ entries) → All (IsEntryOf m objects) entries
rest_of_all m objects e entries of = λ k d below. of (suc k) d (omega (arith, below))

pub sent_is_monitor : (m objects : ℕ) (entries : List Noted) (mon : ℕ) → All (IsEntryOf m objects) entries → is_sent entries mon ≡ true → (1 ≤ mon) × (mon ≤ m)
sent_is_monitor m objects [] mon of is = absurd (false≢true is)
sent_is_monitor m objects (n.Got from frame ∷ entries) mon of is = sent_is_monitor m objects entries mon (rest_of_all m objects (n.Got from frame) entries of) is
sent_is_monitor m objects (n.Published publication ∷ entries) mon of is = sent_is_monitor m objects entries mon (rest_of_all m objects (n.Published publication) entries of) is
sent_is_monitor m objects (n.Tuned k epsilon ∷ entries) mon of is = sent_is_monitor m objects entries mon (rest_of_all m objects (n.Tuned k epsilon) entries of) is
sent_is_monitor m objects (n.Sent to frame ∷ entries) mon of is = elim (or_cases (mon == to.0) (is_sent entries mon) is) [
  | inl here ↦ is_one_of m to mon (first_of_all m objects (n.Sent to frame) entries of) here
  | inr later ↦ sent_is_monitor m objects entries mon (rest_of_all m objects (n.Sent to frame) entries of) later
]
