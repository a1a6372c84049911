-- Which sets of members are valid.
use Rattle.std.specs.Prelude.{ℕ, ◌≡◌, false, List, ◌∷◌, ◌++◌, true}
use Rattle.tk_input.specs.Logs.{full_cut}
use Rattle.tk_journal.specs.Laws.{IsMonitor}
use Rattle.tk_journal.specs.Links.{frames_from, frames_to}
use Rattle.tk_journal.specs.Readings.{is_open}
use Rattle.tk_journal.specs.declared.noted.Noted.TheVariants as n
use Rattle.tk_journal.specs.declared.noted.Noted.{Noted}
use Rattle.tk_journal.specs.declared.publication.Publication.{Publication}
use Rattle.tk_story.specs.Moments.{IsPublishedValid}
use Rattle.tk_story.specs.Story.{IsStory, StoryView, trail_of}
use Rattle.tk_trail.specs.Readings.{sent_by, taken_by}

-- where each monitor took all that was sent to it, and the journal all that monitors sent, no round is open
abbrev pub EmptyLinksLeaveNoRoundOpen : Type 0
EmptyLinksLeaveNoRoundOpen =
    (s : StoryView)
    → IsStory s → ((mon : ℕ) → IsMonitor s.settings mon → taken_by (trail_of s mon) ≡ frames_to mon s.journal)
    → ((mon : ℕ) → IsMonitor s.settings mon → frames_from mon s.journal ≡ sent_by (trail_of s mon))
    → is_open s.settings s.journal ≡ false

-- a published set holds at its cut, with its own k and epsilon
abbrev pub PublishedIsValid : Type 0
PublishedIsValid =
    (s : StoryView) (before after : List Noted) (p : Publication)
    → IsStory s → s.journal ≡ before ++ n.Published p ∷ after → IsPublishedValid s p

-- the last publication is at the ends of all logs
abbrev pub LastIsAtTheFullCut : Type 0
LastIsAtTheFullCut =
    (s : StoryView) (before after : List Noted) (p : Publication)
    → IsStory s → s.journal ≡ before ++ n.Published p ∷ after → p.last ≡ true → p.cut ≡ full_cut s.logs.logs
