-- A still story at its ends is over: the last publication at the full cut, and Stop taken by all.
use Rattle.tk_frames.specs.declared.frame.Frame.TheVariants as f
use Rattle.std.proofs.Common.{◌≡◌, ℕ, ◌<◌, true, List, [], ◌∷◌, Some, refl, ap, ◌∙◌, arith}
use Rattle.tk_frames.specs.declared.frame.Frame.{Frame}
use Rattle.tk_base.specs.History.{last_of}
use Rattle.tk_journal.specs.Laws.{IsMonitor}
use Rattle.tk_journal.specs.Legal.{start}
use Rattle.tk_journal.specs.Publishing.{stops}
use Rattle.tk_journal.proofs.Ended.{legal_ends}
use Rattle.tk_journal.proofs.LawLemmas.{one_less}
use Rattle.tk_frames.specs.Carried.{tally}
use Rattle.tk_journal.proofs.SentLemmas.{is_halt}
use Rattle.tk_trail.specs.Readings.{at_ends, is_stopped, taken_by}
use Rattle.tk_trail.specs.declared.entry.Entry.{Entry}
use Rattle.tk_trail.specs.declared.entry.Entry.TheVariants.{Raised, Took, Sent}
use Rattle.tk_story.specs.Story.{IsStory, StoryView, setup_of, trail_of}
use Rattle.tk_story.specs.Moments.{IsOver, IsStill}
use Rattle.tk_story.proofs.DownLemmas.{last_tally, stop_last}
use Rattle.tk_story.proofs.PublishedLemmas.{IsPublished, last_is_full, published_holds}
use Rattle.tk_story.proofs.QuietLemmas.{start_is_set_up}
use Rattle.tk_story.proofs.StillLemmas.{ended_is_stopped}

pub halted : (trail : List Entry) → 0 < tally is_halt (taken_by trail) → is_stopped trail ≡ true
halted [] some = absurd (omega (arith, some))
halted (Raised g ∷ trail) some = halted trail some
halted (Sent frame ∷ trail) some = halted trail some
halted (Took f.Stop ∷ trail) some = refl
halted (Took (f.Hello run version mon) ∷ trail) some = halted trail (omega (arith, some))
halted (Took (f.Report seq border failed values) ∷ trail) some = halted trail (omega (arith, some))
halted (Took (f.Collect round asked) ∷ trail) some = halted trail (omega (arith, some))
halted (Took (f.Values round seq border values) ∷ trail) some = halted trail (omega (arith, some))
halted (Took (f.Assign seq members changes) ∷ trail) some = halted trail (omega (arith, some))
halted (Took (f.Settled seq last places) ∷ trail) some = halted trail (omega (arith, some))

pub some_halt : (xs : List Frame) → last_of xs ≡ Some f.Stop → 0 < tally is_halt xs
some_halt [] is = absurd (cc)
some_halt (x ∷ xs) is = last_tally is_halt x xs f.Stop is refl

pub still_is_over : (s : StoryView) → IsStory s → IsStill s → ((mon : ℕ) → IsMonitor s.settings mon → at_ends (setup_of s mon) (trail_of s mon) ≡ true) → IsOver s
still_is_over s h still ends =
    let stopped = ended_is_stopped s h still ends in
    let set = start_is_set_up s h in
    let k = one_less s.settings.monitors h.limits.some_monitor in
    let e = (legal_ends (start s.settings) k.0 k.1 s.journal h.journal_legal).ended stopped in
    let at : IsPublished s e.final = record { before = e.front; after = stops s.settings; is = e.is } in
    record {
      front = e.front;
      final = e.final;
      is = e.is;
      last = e.last;
      cut = last_is_full s h e.final at e.last;
      valid = published_holds s h e.final at;
      halted = λ mon m.
          halted (trail_of s mon) (some_halt (taken_by (trail_of s mon)) (ap (λ (xs : List Frame). last_of xs) (still.down mon m) ∙ stop_last (start s.settings) s.journal mon set h.journal_legal m stopped));
    }
