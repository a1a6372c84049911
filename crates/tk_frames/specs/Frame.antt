-- The frames, as contracts see them.
use Rattle.tk_frames.specs.declared.frame.Frame.{Frame}
use Rattle.tk_frames.specs.declared.frame.Frame.TheVariants as f
use Rattle.tk_frames.specs.declared.kind.Kind.{Kind}
use Rattle.tk_frames.specs.declared.kind.Kind.TheVariants as k

-- what a frame is for
abbrev pub kind_of : Frame → Kind
kind_of (f.Hello run version mon) = k.Hello
kind_of (f.Report seq border failed values) = k.Report
kind_of (f.Collect round objects) = k.Collect
kind_of (f.Values round seq border values) = k.Values
kind_of (f.Assign seq members changes) = k.Assign
kind_of (f.Settled seq last places) = k.Settled
kind_of f.Stop = k.Stop
