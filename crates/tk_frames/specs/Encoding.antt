-- What writing a frame leaves, and when it is refused.
use Rattle.std.specs.Prelude.{◌≡◌, ◌<◌, ◌^◌, ◌++◌, ℕ, List, length, ⊤, FitsSigned}
use Rattle.std.specs.Int.{w128}
use Rattle.tk_frames.specs.declared.frame.Frame.{Frame}
use Rattle.tk_frames.specs.declared.frame.Frame.TheVariants as f
use Rattle.tk_frames.specs.declared.fault.EncodeFault.{EncodeFault}
use Rattle.tk_frames.specs.declared.fault.EncodeFault.TheVariants.{BadHello, TooLong, NoMemory}
use Rattle.tk_frames.specs.Spelling.{IsSpelling, IsHello, EachInTurn, Above, PairAbove, IsPlace, object_itself, pair_object, no_object, payload}

-- new is old with a spelling of the frame at its end
pub record Appends (version : ℕ) (frame : Frame) (old new : List ℕ) : Type 0 where
  pub bytes : List ℕ
  pub spelled : IsSpelling version frame bytes
  pub appended : new ≡ old ++ bytes

-- a Hello that names no version or no monitor
abbrev pub IsBadHello : Frame → Type 0
IsBadHello (f.Hello run speaks mon) = IsHello speaks mon.0 → ⊥
IsBadHello (f.Report seq border failed values) = ⊥
IsBadHello (f.Collect round objects) = ⊥
IsBadHello (f.Values round seq border values) = ⊥
IsBadHello (f.Assign seq members changes) = ⊥
IsBadHello (f.Settled seq last reached) = ⊥
IsBadHello f.Stop = ⊥

-- what each fault says of the frame
abbrev pub Refuses : ℕ → Frame → EncodeFault → Type 0
Refuses version frame BadHello = IsBadHello frame
Refuses version frame (TooLong size) = (size ≡ length (payload version frame)) × (2097152 < size)
Refuses version frame NoMemory = ⊤

-- each field of a frame is within its type; no public clause cites it
abbrev pub AreWithin : Frame → Type 0
AreWithin (f.Hello run speaks mon) = run < 2 ^ 64
AreWithin (f.Report seq border failed values) = (seq < 2 ^ 64) × FitsSigned w128 border × EachInTurn object_itself Above 0 failed × EachInTurn pair_object PairAbove 0 values
AreWithin (f.Collect round objects) = (round < 2 ^ 64) × EachInTurn object_itself Above 0 objects
AreWithin (f.Values round seq border values) = (round < 2 ^ 64) × (seq < 2 ^ 64) × FitsSigned w128 border × EachInTurn pair_object PairAbove 0 values
AreWithin (f.Assign seq members changes) = (seq < 2 ^ 64) × EachInTurn object_itself Above 0 members × EachInTurn pair_object PairAbove 0 changes
AreWithin (f.Settled seq last reached) = (seq < 2 ^ 64) × EachInTurn no_object IsPlace 0 reached
AreWithin f.Stop = ⊤
