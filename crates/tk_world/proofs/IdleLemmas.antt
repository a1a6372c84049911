-- Where no check sends, and no frame moves, the story is still.
use Rattle.tk_journal.specs.declared.noted.Noted.TheVariants as n
use Rattle.std.proofs.Common.{◌≡◌, ℕ, true, List, [], ◌∷◌, ◌++◌, length, None, sym, ap, ◌∙◌, append-nil}
use Rattle.std.specs.Prelude.{nat_le, slice_get, if◌then◌else◌}
use Rattle.std.proofs.lemmas.Bool.{and_from, le-leb}
use Rattle.tk_frames.specs.declared.frame.Frame.{Frame}
use Rattle.tk_journal.specs.Laws.{IsMonitor}
use Rattle.tk_journal.specs.Links.{frames_from, frames_to}
use Rattle.tk_base.specs.History.{IsFront}
use Rattle.tk_base.proofs.OptionLemmas.{unmapped}
use Rattle.tk_story.proofs.JoinLemmas.{rest_of}
use Rattle.tk_trail.specs.Frames.{due_at}
use Rattle.tk_trail.specs.Legal.{after_take}
use Rattle.tk_trail.specs.Readings.{sent_by, taken_by}
use Rattle.tk_trail.specs.declared.entry.Entry.TheVariants.{Sent}
use Rattle.tk_input.specs.declared.event.Event.{Event}
use Rattle.tk_world.specs.Events.{CanOnlyChange, is_monitor, is_of, moved, next_down, next_of, next_up, with_trail, with_turn, check_at, up_at, down_at}
use Rattle.tk_story.specs.Story.{IsStory, StoryView, setup_of, trail_of}
use Rattle.tk_story.specs.Moments.{AreMembersValid, IsStill}
use Rattle.tk_story.proofs.QuietLemmas.{quiet_holds}
use Rattle.tk_world.proofs.StepLemmas.{at_end}
use Rattle.tk_story.proofs.StillLemmas.{still_is_quiet}

no_rest : (xs ys rest : List Frame) → ys ≡ xs ++ rest → slice_get rest 0 ≡ None → xs ≡ ys
no_rest xs ys [] is none = sym (is ∙ append-nil xs)
no_rest xs ys (x ∷ rest) is none = absurd (cc)

pub all_passed : (xs ys : List Frame) → IsFront xs ys → slice_get ys (length xs) ≡ None → xs ≡ ys
all_passed xs ys h none = let r = rest_of xs ys h in no_rest xs ys r.rest r.is (sym (ap (λ zs. slice_get zs (length xs)) r.is ∙ at_end xs r.rest) ∙ none)

pub is_one : (s : StoryView) (mon : ℕ) → IsMonitor s.settings mon → is_monitor s mon ≡ true
is_one s mon m = and_from (nat_le 1 mon) (nat_le mon s.settings.monitors) (le-leb 1 mon m.from_one) (le-leb mon s.settings.monitors m.within)

not_moved : (s : StoryView) (e : Event) → is_of s e ≡ true → next_of s e ≡ None → moved s e ≡ None
unfolding next_of
not_moved s e of none = sym (ap (λ b. if b then moved s e else None) of) ∙ none

pub idle_is_still : (s : StoryView) → IsStory s → CanOnlyChange s → IsStill s
idle_is_still s h c = record {
  down = λ mon m. all_passed (taken_by (trail_of s mon)) (frames_to mon s.journal) (h.links mon m).down
      (unmapped (λ frame. with_trail s mon (after_take (setup_of s mon) (trail_of s mon) frame)) (next_down s mon) (not_moved s (down_at mon) (is_one s mon m) (c.down mon m)));
  up = λ mon m. all_passed (frames_from mon s.journal) (sent_by (trail_of s mon)) (h.links mon m).up
      (unmapped (λ frame. with_turn s (n.Got (record { 0 = mon }) frame)) (next_up s mon) (not_moved s (up_at mon) (is_one s mon m) (c.up mon m)));
  idle = λ mon m. unmapped (λ frame. with_trail s mon (trail_of s mon ++ Sent frame ∷ [])) (due_at (setup_of s mon) (trail_of s mon)) (not_moved s (check_at mon) (is_one s mon m) (c.check mon m));
}

pub idle_holds : (s : StoryView) → IsStory s → CanOnlyChange s → AreMembersValid s
idle_holds s h c = quiet_holds s h (still_is_quiet s h (idle_is_still s h c))
