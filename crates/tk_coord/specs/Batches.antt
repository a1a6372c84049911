-- Frames that are sent to monitors one after another.
use Rattle.std.specs.Prelude.{ℕ, List, map}
use Rattle.std.specs.List.{All, range_with_len}
use Rattle.tk_frames.specs.declared.frame.Frame.{Frame}
use Rattle.tk_journal.specs.Entries.{IsEntryOf}
use Rattle.tk_journal.specs.declared.noted.Noted.{Noted}
use Rattle.tk_journal.specs.declared.noted.Noted.TheVariants as n

-- a frame to each of so many monitors
abbrev pub to_each : Frame → ℕ → List Noted
to_each frame monitors = map (λ mon. n.Sent (record { 0 = mon }) frame) (range_with_len 1 monitors)

-- every entry is of so many monitors and objects
abbrev pub AreOf : ℕ → ℕ → List Noted → Type 0
AreOf monitors objects entries = All (IsEntryOf monitors objects) entries
