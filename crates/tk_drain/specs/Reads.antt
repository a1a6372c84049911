-- What settling reads of a story. No public clause but the bounds cites this file.
use Rattle.std.specs.Prelude.{ℕ, ◌-◌, ℤ, ◌+ℤ◌, true, false, if◌then◌else◌, List, length, map, is_some}
use Rattle.tk_base.specs.Objects.{objects}
use Rattle.tk_journal.specs.Links.{frames_from, frames_to}
use Rattle.tk_journal.specs.Readings.{assigns_sent, factor, is_open, is_stopped, members_at}
use Rattle.tk_journal.specs.Turns.{is_wide, streak}
use Rattle.tk_journal.specs.declared.noted.Noted.{Noted}
use Rattle.tk_trail.specs.Setup.{MonitorSetup}
use Rattle.tk_trail.specs.Frames.{due_at}
use Rattle.tk_trail.specs.Readings.{sent_by, taken_by, value_of_object}
use Rattle.tk_trail.specs.declared.entry.Entry.{Entry}
use Rattle.tk_drain.specs.Energy.{Local}
use Rattle.tk_drain.specs.Moves.{Readings}
use Rattle.tk_alloc.specs.Strain.{is_strained}
use Rattle.tk_trail.specs.Still.{is_present}
use Rattle.tk_world.specs.Events.{is_monitor}
use Rattle.tk_story.specs.Story.{StoryView, setup_of, trail_of}

-- the levels of a monitor once it has taken all Assigns sent to it
abbrev pub levels_then : MonitorSetup → List Entry → ℕ → List Noted → List ℤ
levels_then setup trail mon j = map (λ o. value_of_object setup trail o +ℤ factor mon j o) (objects setup.objects)

-- what is read of a monitor
abbrev pub reading : MonitorSetup → List Entry → ℕ → List Noted → Local
reading setup trail mon j = record {
  down = length (frames_to mon j) - length (taken_by trail);
  up = length (sent_by trail) - length (frames_from mon j);
  due = is_some (due_at setup trail);
  present = is_present (assigns_sent mon j) trail;
  strained = is_strained (levels_then setup trail mon j) (members_at j);
}

-- of a number that is no monitor's nothing is read
abbrev pub nobody : Local
nobody = record { down = 0; up = 0; due = false; present = true; strained = false }

-- what is read of a monitor in a story, by its number
abbrev pub local_of : StoryView → ℕ → Local
local_of s mon = if is_monitor s mon then reading (setup_of s mon) (trail_of s mon) mon s.journal else nobody

-- all that is read of a story
abbrev pub readings : StoryView → Readings
readings s = record {
  waiting = is_open s.settings s.journal;
  wide = is_wide s.settings s.journal;
  stopped = is_stopped s.journal;
  streak = streak s.settings s.journal;
  local = local_of s;
}
