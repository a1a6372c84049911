-- One end of a connection, as contracts see it, and what it has heard and said.
use Rattle.std.specs.Prelude.{◌≡◌, ℕ, ◌+◌, ◌-◌, ◌^◌, ◌≤◌, min, List, [], ◌++◌, length, take, Bool, true, false, Option, None}
use Rattle.tk_frames.specs.declared.frame.Frame.{Frame}
use Rattle.tk_wire.specs.Meanings.{Traffic, Counts, Arrives, Departs}
use Rattle.tk_wire.specs.Buffered.{IsFull}
use Rattle.tk_wire.specs.declared.out_buffer.Pushed.{Pushed}
use Rattle.tk_wire.specs.declared.out_buffer.Pushed.TheVariants.{NotYet}
use Rattle.tk_wire.specs.Parse.{HaveSpellings, IsEncoding, IsParse, spellings}

-- its wire, with the bytes that it tells and its counts; the version of its frames; the bytes that came and are not
-- taken as frames, and the first frame of them where it is read already; the bytes that are not given yet; how many of
-- the actor's frames were written; whether it was shut, and its wire with it
pub record LinkView (W : Type 0) : Type 0 where
  pub wire : W
  pub tells : Bool
  pub traffic : Traffic
  pub counts : Counts
  pub version : ℕ
  pub unread : List ℕ
  pub front : Option Frame
  pub output : List ℕ
  pub written : ℕ
  pub shut : Bool

-- an end that goes on over a wire with these bytes, of which none is read as a frame, and that has said nothing
abbrev pub link_over : {W : Type 0} → W → Bool → Traffic → Counts → ℕ → List ℕ → LinkView W
link_over wire tells traffic counts version unread = record {
  wire = wire;
  tells = tells;
  traffic = traffic;
  counts = counts;
  version = version;
  unread = unread;
  front = None;
  output = [];
  written = 0;
  shut = false;
}

-- no fewer bytes were taken than these frames have with those that are not read, unless the count stands still
abbrev pub Covers : ℕ → List Frame → List ℕ → ℕ → Type 0
Covers version heard unread taken = min (length (spellings version heard) + length unread) (2 ^ 64 - 1) ≤ taken

-- these frames were heard and these were said: the first are a front of the parse of what came, and what stands behind
-- them is kept; what was given, and what is left to give, are together the bytes of the second
pub record IsEnd {W : Type 0} (link : LinkView W) (heard said : List Frame) : Type 0 where
  pub came : link.tells ≡ true → IsParse link.version heard link.traffic.came link.unread
  pub went : link.tells ≡ true → IsEncoding link.version said link.traffic.went link.output
  pub covered : Covers link.version heard link.unread link.counts.taken

-- these bytes came from what waits, and these were given
pub record Moves (came given : List ℕ) (old new : Traffic) : Type 0 where
  pub waiting : old.waiting ≡ came ++ new.waiting
  pub came_on : new.came ≡ old.came ++ came
  pub went_on : new.went ≡ old.went ++ given
  pub held : new.held ≡ old.held ++ given
  pub room : new.room ≡ old.room

-- nothing was written, given or shut
pub record Keeps {W : Type 0} (old new : LinkView W) : Type 0 where
  pub tells : new.tells ≡ old.tells
  pub version : new.version ≡ old.version
  pub output : new.output ≡ old.output
  pub written : new.written ≡ old.written
  pub shut : new.shut ≡ old.shut

-- this piece came, and nothing was written, given or shut
pub record Listens {W : Type 0} (piece : List ℕ) (old new : LinkView W) : Type 0 where
  pub keeps : Keeps old new
  pub arrived : old.tells ≡ true → Arrives piece old.traffic new.traffic
  pub taken : min (old.counts.taken + length piece) (2 ^ 64 - 1) ≤ new.counts.taken

-- of the frames there are to say, those up to a further place were written, and these bytes were given; nothing came
pub record Says {W : Type 0} (said : List Frame) (old new : LinkView W) : Type 0 where
  pub tells : new.tells ≡ old.tells
  pub version : new.version ≡ old.version
  pub unread : new.unread ≡ old.unread
  pub front : new.front ≡ old.front
  pub shut : new.shut ≡ old.shut
  pub taken : new.counts.taken ≡ old.counts.taken
  pub within : new.written ≤ length said
  pub frames : List Frame
  pub reached : take new.written said ≡ take old.written said ++ frames
  pub each : HaveSpellings old.version frames
  pub given : List ℕ
  pub output : old.output ++ spellings old.version frames ≡ given ++ new.output
  pub departed : old.tells ≡ true → Departs given old.traffic new.traffic

-- where a push left bytes, the wire has no room for more
abbrev pub LeavesFull : {W : Type 0} → Pushed → LinkView W → Type 0
LeavesFull pushed link = pushed ≡ NotYet → link.tells ≡ true → IsFull link.traffic

-- the end before, but with the wire and the bytes to be given of the one now
abbrev pub with_given : {W : Type 0} → LinkView W → LinkView W → LinkView W
with_given now link = record link { wire = now.wire; traffic = now.traffic; counts = now.counts; output = now.output }

-- its wire is shut, and all else is as it was
pub record IsShut {W : Type 0} (old new : LinkView W) : Type 0 where
  pub shut : new.shut ≡ true
  pub tells : new.tells ≡ old.tells
  pub traffic : old.tells ≡ true → new.traffic ≡ old.traffic
  pub counts : new.counts ≡ old.counts
  pub version : new.version ≡ old.version
  pub unread : new.unread ≡ old.unread
  pub front : new.front ≡ old.front
  pub output : new.output ≡ old.output
  pub written : new.written ≡ old.written

-- over a whole call these bytes came and these were given, and the version is the same
pub record Passes {W : Type 0} (least : ℕ) (old new : LinkView W) : Type 0 where
  pub tells : new.tells ≡ old.tells
  pub version : new.version ≡ old.version
  pub came : List ℕ
  pub given : List ℕ
  pub size : least ≤ length came
  pub taken : min (old.counts.taken + length came) (2 ^ 64 - 1) ≤ new.counts.taken
  pub moved : old.tells ≡ true → Moves came given old.traffic new.traffic

-- other bytes on the wire, where that is known to bear them
abbrev pub over : {W : Type 0} → (Traffic → W → W) → Traffic → LinkView W → LinkView W
over bearing traffic link = record link { wire = bearing traffic link.wire; traffic = traffic }
