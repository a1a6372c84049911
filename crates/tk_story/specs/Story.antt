-- A finished story: settings, logs, starting places, the coordinator's journal, and each monitor's trail.
use Rattle.std.specs.Prelude.{ℕ, ◌-◌, ◌≡◌, List, [], length, map, slice_index_or}
use Rattle.tk_base.specs.Settings.{Setup, IsWithinLimits}
use Rattle.tk_input.specs.Logs.{AreLogs, IsCut, LogSet, parts_of, places_of}
use Rattle.tk_journal.specs.Laws.{IsMonitor}
use Rattle.tk_journal.specs.Legal.{IsLegal, start}
use Rattle.tk_journal.specs.declared.noted.Noted.{Noted}
use Rattle.tk_monitor.specs.Monitored.{MonitorView}
use Rattle.tk_trail.specs.Legal.{IsLegal as IsLegalTrail}
use Rattle.tk_trail.specs.Setup.{MonitorSetup}
use Rattle.tk_trail.specs.declared.entry.Entry.{Entry}
use Rattle.tk_story.specs.Links.{IsOrderedLink}

-- what the coordinator and each monitor did in one run, over its settings, its logs and its starting places
pub record StoryView : Type 0 where
  pub settings : Setup
  pub logs : LogSet
  pub from : List (List ℕ)
  pub journal : List Noted
  pub trails : List (List Entry)

-- the story that nodes tell: the coordinator's journal, and the trail of each monitor
abbrev pub story_over : Setup → LogSet → List (List ℕ) → List Noted → List MonitorView → StoryView
story_over settings logs from journal monitors = record {
  settings = settings;
  logs = logs;
  from = from;
  journal = journal;
  trails = map (λ m. m.trail) monitors;
}

-- what a monitor of the story is made of
abbrev pub setup_of : StoryView → ℕ → MonitorSetup
setup_of s mon = record {
  number = mon;
  objects = s.settings.objects;
  parts = parts_of s.logs.logs mon;
  from = places_of s.from mon;
}

-- the trail of a monitor of the story
abbrev pub trail_of : StoryView → ℕ → List Entry
trail_of s mon = slice_index_or s.trails (mon - 1) []

-- settings, logs and starting places agree, with one trail a monitor; the journal is legal from the start of these
-- settings, each trail over its monitor's setup, and each link is ordered
pub record IsStory (s : StoryView) : Type 0 where
  pub limits : IsWithinLimits s.settings
  pub logs : AreLogs s.logs
  pub objects : s.logs.objects ≡ s.settings.objects
  pub monitors : length s.logs.logs ≡ s.settings.monitors
  pub starts : IsCut s.logs.logs s.from
  pub count : length s.trails ≡ s.settings.monitors
  pub journal_legal : IsLegal (start s.settings) s.journal
  pub trails_legal : (mon : ℕ) → IsMonitor s.settings mon → IsLegalTrail (setup_of s mon) (trail_of s mon)
  pub links : (mon : ℕ) → IsMonitor s.settings mon → IsOrderedLink s.journal mon (trail_of s mon)

-- the histories of a run, as those of a story, whatever passed on the links
pub record AreHistories (s : StoryView) : Type 0 where
  pub limits : IsWithinLimits s.settings
  pub logs : AreLogs s.logs
  pub objects : s.logs.objects ≡ s.settings.objects
  pub monitors : length s.logs.logs ≡ s.settings.monitors
  pub starts : IsCut s.logs.logs s.from
  pub count : length s.trails ≡ s.settings.monitors
  pub journal_legal : IsLegal (start s.settings) s.journal
  pub trails_legal : (mon : ℕ) → IsMonitor s.settings mon → IsLegalTrail (setup_of s mon) (trail_of s mon)
