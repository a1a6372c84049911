-- What holds of a finished run, whatever the order in which changes, checks and frames came.
use Rattle.std.specs.Prelude.{ℕ, ◌≡◌, ◌≤◌, true, List, ◌∷◌, ◌++◌, length, map, slice_index_or}
use Rattle.std.specs.List.{range_with_len}
use Rattle.tk_input.specs.Logs.{full_cut, places_of}
use Rattle.tk_journal.specs.Laws.{HasEnded, IsMonitor}
use Rattle.tk_journal.specs.Publishing.{publications, stops}
use Rattle.tk_journal.specs.declared.noted.Noted.{Noted}
use Rattle.tk_journal.specs.declared.noted.Noted.TheVariants as n
use Rattle.tk_journal.specs.declared.publication.Publication.{Publication}
use Rattle.tk_story.specs.Moments.{AreMembersValid, IsMoment, IsPublishedValid, IsQuiet}
use Rattle.tk_story.specs.Story.{IsStory, StoryView}

-- the journal came to its end: behind the final publication, at the full cut and valid there, stands Stop to each
-- monitor and no more
pub record ReachesItsEnd (s : StoryView) : Type 0 where
  pub front : List Noted
  pub final : Publication
  pub is : s.journal ≡ front ++ n.Published final ∷ stops s.settings
  pub last : final.last ≡ true
  pub cut : final.cut ≡ full_cut s.logs.logs
  pub valid : IsPublishedValid s final

-- each published set is valid over exactly the cut beside it, with the k and epsilon beside it
abbrev pub ArePublishedValid : StoryView → Type 0
ArePublishedValid s = (before after : List Noted) (p : Publication) → s.journal ≡ before ++ n.Published p ∷ after → IsPublishedValid s p

-- no place of a later cut is below that of an earlier one
abbrev pub NeverGoBack : StoryView → Type 0
NeverGoBack s =
    (a b c : List Noted) (p q : Publication) (mon i : ℕ) → s.journal ≡ a ++ n.Published p ∷ b ++ n.Published q ∷ c → IsMonitor s.settings mon
    → slice_index_or (places_of p.cut mon) i 0 ≤ slice_index_or (places_of q.cut mon) i 0

-- publications are numbered from 1
abbrev pub AreNumbered : List Publication → Type 0
AreNumbered all = map (λ p. p.number) all ≡ range_with_len 1 (length all)

-- a run that goes on or was ended by a restart: wherever all links are empty, no round is open and nothing is broken, the
-- members are valid; each published set is valid at its cut; they are numbered and never go back; and what each node kept
-- is legal, with ordered links
pub record IsSoundSoFar (s : StoryView) : Type 0 where
  pub quiet : (t : StoryView) → IsMoment t s → IsQuiet t → AreMembersValid t
  pub published : ArePublishedValid s
  pub numbered : AreNumbered (publications s.journal)
  pub forward : NeverGoBack s
  pub legal : IsStory s

-- a finished run: wherever all links are empty, no round is open and nothing is broken, the members are valid; each
-- published set is valid at its cut; the last one is final, at the full cut, and it alone; they are numbered and never
-- go back; and what each node kept is legal, with ordered links
pub record IsSound (s : StoryView) : Type 0 where
  pub quiet : (t : StoryView) → IsMoment t s → IsQuiet t → AreMembersValid t
  pub published : ArePublishedValid s
  pub final : ReachesItsEnd s
  pub alone : HasEnded s.settings s.journal
  pub numbered : AreNumbered (publications s.journal)
  pub forward : NeverGoBack s
  pub legal : IsStory s
