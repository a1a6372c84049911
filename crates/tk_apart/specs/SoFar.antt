-- What holds of connected histories, wherever they stand.
use Rattle.std.specs.Prelude.{ℕ, ℤ, ◌≡◌, ◌≤◌, List, [], ◌∷◌, ◌++◌, map, slice_index_or}
use Rattle.tk_input.specs.Logs.{IsValid}
use Rattle.tk_journal.specs.declared.noted.Noted.{Noted}
use Rattle.tk_journal.specs.declared.noted.Noted.TheVariants as n
use Rattle.tk_journal.specs.declared.publication.Publication.{Publication}
use Rattle.tk_story.specs.Moments.{IsPublishedValid}
use Rattle.tk_story.specs.Story.{IsStory, StoryView}
use Rattle.tk_compact.specs.Standing.{StandForLogs, all_behind, cut_moved, ends_of}
use Rattle.tk_apart.specs.Connected.{AreConnected}

-- they are a story
abbrev pub ConnectedIsAStory : Type 0
ConnectedIsAStory = (s : StoryView) (run : ℕ) → AreConnected s run → IsStory s

-- each published set is valid at its cut
abbrev pub PublishedAcrossHostsIsValid : Type 0
PublishedAcrossHostsIsValid =
    (s : StoryView) (run : ℕ) (before after : List Noted) (p : Publication)
    → AreConnected s run → s.journal ≡ before ++ n.Published p ∷ after → IsPublishedValid s p

-- no place of its cut is in front of where its monitor started
abbrev pub CutIsBehindTheStart : Type 0
CutIsBehindTheStart =
    (s : StoryView) (run : ℕ) (before after : List Noted) (p : Publication) (j i : ℕ)
    → AreConnected s run → s.journal ≡ before ++ n.Published p ∷ after
    → slice_index_or (slice_index_or s.from j []) i 0 ≤ slice_index_or (slice_index_or p.cut j []) i 0

-- where each monitor started behind a base that stands for its true log, the set is valid over the true logs, at the
-- absolute cut
abbrev pub PublishedIsValidOverTheTrueLogs : Type 0
PublishedIsValidOverTheTrueLogs =
    (s : StoryView) (run : ℕ) (bases logs more : List (List (List (ℕ × ℤ)))) (before after : List Noted) (p : Publication)
    → AreConnected s run → s.journal ≡ before ++ n.Published p ∷ after
    → StandForLogs bases logs more → s.logs.logs ≡ all_behind bases more → s.from ≡ map ends_of bases
    → IsValid (all_behind logs more) s.settings.objects p.k p.epsilon (cut_moved bases logs p.cut) p.members
