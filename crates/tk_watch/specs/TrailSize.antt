-- How many bytes the frames of a trail have.
use Rattle.std.specs.Prelude.{ℕ, ◌^◌, ◌≤◌, List, sum_by, ⊤}
use Rattle.tk_frames.specs.Size.{size_of}
use Rattle.tk_trail.specs.declared.entry.Entry.{Entry}
use Rattle.tk_trail.specs.declared.entry.Entry.TheVariants.{Raised, Took, Sent}
use Rattle.tk_watch.specs.declared.turned.Turned.{Turned}
use Rattle.tk_watch.specs.declared.turned.Turned.TheVariants as t

-- the length of the frame of an entry in version 1, where it has one
abbrev pub entry_size : Entry → ℕ
entry_size (Raised g) = 0
entry_size (Took frame) = size_of frame
entry_size (Sent frame) = size_of frame

-- the lengths of all frames of a trail, summed
abbrev pub frames_size : List Entry → ℕ
frames_size trail = sum_by entry_size trail

-- the most that they may sum to where a connection goes on: 256 MiB
abbrev pub most_bytes : ℕ
most_bytes = 2 ^ 28

-- a look from which a connection goes on leaves a trail with no more
abbrev pub KeepsRoom : Turned → List Entry → Type 0
KeepsRoom t.More trail = frames_size trail ≤ most_bytes
KeepsRoom t.Quiet trail = frames_size trail ≤ most_bytes
KeepsRoom t.Stopped trail = ⊤
KeepsRoom (t.Left cause) trail = ⊤
