-- What a record of a run tells, and what is found where that is not a legal story that came to its end.
use Rattle.std.specs.Prelude.{ℕ, ◌+◌, ◌<◌, ◌≤◌, ◌≡◌, ◌⊎◌, Bool, true, false, List, ◌∷◌, ◌++◌, length, map, Option, Some, None, Result, Ok, Err}
use Rattle.std.specs.Global.{Vec}
use Rattle.tk_base.specs.History.{last_of}
use Rattle.tk_base.specs.Settings.{Setup}
use Rattle.tk_frames.specs.declared.frame.Frame.{Frame}
use Rattle.tk_input.specs.Logs.{LogSet, beginnings, full_cut}
use Rattle.tk_journal.specs.Laws.{IsMonitor}
use Rattle.tk_journal.specs.Legal.{IsLegal, start}
use Rattle.tk_journal.specs.Publishing.{publications, stops}
use Rattle.tk_journal.specs.declared.noted.Noted.{Noted}
use Rattle.tk_journal.specs.declared.noted.Noted.TheVariants as n
use Rattle.tk_journal.specs.declared.publication.Publication.{Publication}
use Rattle.tk_trail.specs.Legal.{IsLegal as IsLegalTrail}
use Rattle.tk_trail.specs.declared.entry.Entry.{Entry}
use Rattle.tk_story.specs.Ends.{IsFirstOfAll, KeptEnds}
use Rattle.tk_story.specs.Moments.{IsPublishedValid}
use Rattle.tk_story.specs.Story.{AreHistories, IsStory, StoryView, setup_of, trail_of}
use Rattle.tk_story.specs.declared.ends.difference.Direction.{Direction}
use Rattle.tk_story.specs.declared.ends.received.Received.{Received}
use Rattle.tk_verify.specs.Faults.{IsFirstFault}
use Rattle.tk_verify.specs.declared.finding.Finding.{Finding}
use Rattle.tk_verify.specs.declared.finding.Finding.TheVariants as f

-- ---- what a record tells

-- settings and logs of one run
pub record AreAgreed (settings : Setup) (logs : LogSet) : Type 0 where
  pub objects : logs.objects ≡ settings.objects
  pub monitors : length logs.logs ≡ settings.monitors

-- the story that a record tells of a run from some places, legal or not
abbrev pub recorded_from : List (List ℕ) → Setup → LogSet → List Noted → List (List Entry) → StoryView
recorded_from from settings logs journal trails = record {
  settings = settings;
  logs = logs;
  from = from;
  journal = journal;
  trails = trails;
}

-- the story that it tells of a run from its beginning
abbrev pub recorded : Setup → LogSet → List Noted → List (List Entry) → StoryView
recorded settings logs journal trails = recorded_from (beginnings logs) settings logs journal trails

-- the trails as they are recorded
abbrev pub trails_in : List (Vec Entry) → List (List Entry)
trails_in trails = map (λ trail. trail.items) trails

-- ---- what is found

-- parts 1 to m are the trails, and part m + 1 is the journal: the first fault of the first part that is not legal
pub record IsFirstFaultOf (s : StoryView) (part place : ℕ) : Type 0 where
  pub from_one : 1 ≤ part
  pub within : part ≤ s.settings.monitors + 1
  pub before : (mon : ℕ) → IsMonitor s.settings mon → mon < part → IsLegalTrail (setup_of s mon) (trail_of s mon)
  pub trail : part ≤ s.settings.monitors → IsFirstFault (IsLegalTrail (setup_of s part)) (trail_of s part) place
  pub journal : part ≡ s.settings.monitors + 1 → IsFirstFault (IsLegal (start s.settings)) s.journal place

-- the links of a record: all that was received was taken
abbrev pub links_of : StoryView → KeptEnds
links_of s = record {
  settings = s.settings;
  journal = s.journal;
  odd = None;
  trails = s.trails;
  odds = map (λ trail. None) s.trails;
}

-- all parts are legal, and at this place of a link is the first difference of all links
pub record IsFirstUnordered (s : StoryView) (mon : ℕ) (direction : Direction) (place : ℕ) : Type 0 where
  pub histories : AreHistories s
  pub sent : Option Frame
  pub received : Received
  pub first : IsFirstOfAll (links_of s) mon direction place sent received

-- whether a last publication is the final one; none is not
abbrev pub is_final : Option Publication → Bool
is_final None = false
is_final (Some publication) = publication.last

-- the last publication of a journal is the final one
abbrev pub IsFinished : List Noted → Type 0
IsFinished journal = is_final (last_of (publications journal)) ≡ true

-- a legal story whose last publication is not the final one
pub record IsNotFinal (s : StoryView) : Type 0 where
  pub story : IsStory s
  pub last : is_final (last_of (publications s.journal)) ≡ false

-- what is found of a story that a record tells
abbrev pub Finds : StoryView → Finding → Type 0
Finds s (f.NotLegal part place) = IsFirstFaultOf s part place
Finds s (f.Links mon direction place) = IsFirstUnordered s mon.0 direction place
Finds s f.NotFinal = IsNotFinal s
Finds s f.NoMemory = ⊥

-- an answer is this finding, or else want of memory
abbrev pub Answers : {S : Type 0} → Finding → Result S Finding → Type 0
Answers finding (Ok story) = ⊥
Answers finding (Err other) = (other ≡ finding) ⊎ (other ≡ f.NoMemory)
