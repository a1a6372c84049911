-- What a frame carries, read off its fields.
use Rattle.std.specs.Prelude.{ℕ, ◌+◌, ◌==◌, Bool, true, false, if◌then◌else◌, List, [], ◌∷◌, Option, Some, None}
use Rattle.tk_frames.specs.declared.frame.Frame.{Frame}
use Rattle.tk_frames.specs.declared.frame.Frame.TheVariants as f

-- the number of Assigns that a monitor's frame speaks of
abbrev pub seq_in : Frame → Option ℕ
seq_in (f.Hello run version mon) = None
seq_in (f.Report seq border failed values) = Some seq
seq_in (f.Collect round asked) = None
seq_in (f.Values round seq border values) = Some seq
seq_in (f.Assign seq members changes) = None
seq_in (f.Settled seq last places) = Some seq
seq_in f.Stop = None

-- a Report or a Settled under a number
abbrev pub is_numbered : ℕ → Frame → Bool
is_numbered seq (f.Report s border failed values) = s == seq
is_numbered seq (f.Settled s last places) = s == seq
is_numbered seq frame = false

-- whether a frame is Values
abbrev pub is_values : Frame → Bool
is_values (f.Values round seq border values) = true
is_values frame = false

-- whether a frame is a Collect
abbrev pub is_collect : Frame → Bool
is_collect (f.Collect round asked) = true
is_collect frame = false

-- how many of some frames are of a kind
abbrev pub tally : (Frame → Bool) → List Frame → ℕ
tally p [] = 0
tally p (frame ∷ frames) = (if p frame then 1 else 0) + tally p frames
