-- What passed on the links between the coordinator and one monitor, as readings of a journal.
use Rattle.std.specs.Prelude.{ℕ, ◌==◌, if◌then◌else◌, List, Option, Some, None}
use Rattle.std.specs.List.{filter_map}
use Rattle.tk_frames.specs.declared.frame.Frame.{Frame}
use Rattle.tk_journal.specs.declared.noted.Noted.{Noted}
use Rattle.tk_journal.specs.declared.noted.Noted.TheVariants as n

-- the frame that an entry sends to a monitor, if it sends one to it
abbrev pub sent_to : ℕ → Noted → Option Frame
sent_to mon (n.Got from frame) = None
sent_to mon (n.Sent to frame) = if to.0 == mon then Some frame else None
sent_to mon (n.Published publication) = None
sent_to mon (n.Tuned k epsilon) = None

-- the frame of a monitor that an entry takes, if it takes one of it
abbrev pub got_from : ℕ → Noted → Option Frame
got_from mon (n.Got from frame) = if from.0 == mon then Some frame else None
got_from mon (n.Sent to frame) = None
got_from mon (n.Published publication) = None
got_from mon (n.Tuned k epsilon) = None

-- the frames sent to a monitor, in order
abbrev pub frames_to : ℕ → List Noted → List Frame
frames_to mon journal = filter_map (sent_to mon) journal

-- the frames taken from a monitor, in order
abbrev pub frames_from : ℕ → List Noted → List Frame
frames_from mon journal = filter_map (got_from mon) journal

-- a frame on the links of one monitor: up to the coordinator, or down from it
pub data Passed : Type 0 where
  Up : Frame → Passed
  Down : Frame → Passed

-- what an entry passes on the links of a monitor, if it passes something there
abbrev pub passed_by : ℕ → Noted → Option Passed
passed_by mon (n.Got from frame) = if from.0 == mon then Some (Up frame) else None
passed_by mon (n.Sent to frame) = if to.0 == mon then Some (Down frame) else None
passed_by mon (n.Published publication) = None
passed_by mon (n.Tuned k epsilon) = None

-- what passed on the links of a monitor, in order
abbrev pub link_of : ℕ → List Noted → List Passed
link_of mon journal = filter_map (passed_by mon) journal
