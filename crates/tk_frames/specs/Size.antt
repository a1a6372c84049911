-- How many bytes frames take.
use Rattle.std.specs.Prelude.{◌≤◌, ◌+◌, ◌*◌, ℕ, length, ⊤}
use Rattle.tk_frames.specs.declared.frame.Frame.{Frame}
use Rattle.tk_frames.specs.declared.frame.Frame.TheVariants as f

-- the length of a frame's spelling in version 1, the four bytes of its length included
abbrev pub size_of : Frame → ℕ
size_of (f.Hello run speaks mon) = 18
size_of (f.Report seq border failed values) = 37 + 4 * length failed + 20 * length values
size_of (f.Collect round objects) = 17 + 4 * length objects
size_of (f.Values round seq border values) = 41 + 20 * length values
size_of (f.Assign seq members changes) = 21 + 4 * length members + 20 * length changes
size_of (f.Settled seq last reached) = 18 + 4 * length reached
size_of f.Stop = 5

-- no list of the frame has more items than there can be objects
abbrev pub IsShort : Frame → Type 0
IsShort (f.Hello run speaks mon) = ⊤
IsShort (f.Report seq border failed values) = (length failed ≤ 65536) × (length values ≤ 65536)
IsShort (f.Collect round objects) = length objects ≤ 65536
IsShort (f.Values round seq border values) = length values ≤ 65536
IsShort (f.Assign seq members changes) = (length members ≤ 65536) × (length changes ≤ 65536)
IsShort (f.Settled seq last reached) = length reached ≤ 65536
IsShort f.Stop = ⊤
