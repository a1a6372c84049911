-- How many bytes the links of a live run carry.
use Rattle.std.specs.Prelude.{ℕ, ◌+◌, ◌-◌, ◌^◌, ◌≤◌, min, List, length, sum_by}
use Rattle.tk_frames.specs.declared.frame.Frame.{Frame}
use Rattle.tk_journal.specs.Links.{frames_from, frames_to}
use Rattle.tk_journal.specs.Readings.{monitors}
use Rattle.tk_journal.specs.declared.noted.Noted.{Noted}
use Rattle.tk_story.specs.Story.{StoryView}
use Rattle.tk_wire.specs.Net.{NetState}
use Rattle.tk_wire.specs.Parse.{spellings}

-- the bytes of frames in a version
abbrev pub bytes_of : ℕ → List Frame → ℕ
bytes_of version frames = length (spellings version frames)

-- the same in whichever version has fewer: which one a monitor's Hello said is kept by no end
abbrev pub least_bytes : List Frame → ℕ
least_bytes frames = min (bytes_of 1 frames) (bytes_of 2 frames)

-- the bytes of the links of a monitor: its Hello, which has 18, the frames that were got of it, and those that it was sent
abbrev pub carried_at : ℕ → List Noted → ℕ → ℕ
carried_at version journal mon = (18 + least_bytes (frames_from mon journal)) + bytes_of version (frames_to mon journal)

-- no fewer bytes were taken than the Hellos and all frames of the journal have, unless the count stands still
abbrev pub IsCarried : ℕ → StoryView → ℕ → ℕ → Type 0
IsCarried version s old new = min (old + sum_by (carried_at version s.journal) (monitors s.settings)) (2 ^ 64 - 1) ≤ new

-- no fewer bytes than these were taken from a net's links, unless the count stands still
abbrev pub HasTaken : NetState → NetState → ℕ → Type 0
HasTaken old new bytes = min (old.taken + bytes) (2 ^ 64 - 1) ≤ new.taken
