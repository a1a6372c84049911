-- A recorded run: what a trace holds.
use Rattle.std.specs.Prelude.{ℕ, List}
use Rattle.tk_base.specs.Settings.{Setup}
use Rattle.tk_input.specs.Logs.{LogSet}
use Rattle.tk_journal.specs.declared.noted.Noted.{Noted}
use Rattle.tk_trail.specs.declared.entry.Entry.{Entry}
use Rattle.tk_story.specs.Story.{StoryView}
use Rattle.tk_verify.specs.Recorded.{trails_in}
use Rattle.tk_trace.specs.declared.recording.Recording.{Recording}

-- the names of the objects, what the run was set up with, its logs, the coordinator's journal, and each monitor's trail
pub record Recorded : Type 0 where
  pub names : List (List ℕ)
  pub settings : Setup
  pub logs : LogSet
  pub journal : List Noted
  pub trails : List (List Entry)

-- what was recorded, without where it lies in memory
abbrev pub recorded : Recording → Recorded
recorded r = record {
  names = r.names;
  settings = r.settings;
  logs = r.logs;
  journal = r.journal.items;
  trails = trails_in r.trails.items;
}

-- a story over these names, without its starting places and events
abbrev pub recorded_of : List (List ℕ) → StoryView → Recorded
recorded_of names s = record {
  names = names;
  settings = s.settings;
  logs = s.logs;
  journal = s.journal;
  trails = s.trails;
}
