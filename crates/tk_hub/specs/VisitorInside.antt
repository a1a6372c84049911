-- What a visitor keeps, and how its first frame is read. No public clause cites it.
use Rattle.std.specs.Prelude.{◌≡◌, ℕ, ◌-◌, ◌^◌, ◌<◌, ◌≤◌, ◌==◌, if◌then◌else◌, min, List, [], ◌++◌, length, Bool, true, Option, Some, None, Result, Ok, Err, ⊤}
use Rattle.tk_frames.specs.Spelling.{IsSpelling, spelling}
use Rattle.tk_frames.specs.declared.frame.Frame.{Frame}
use Rattle.tk_frames.specs.declared.frame.Frame.TheVariants as f
use Rattle.tk_wire.specs.Meanings.{Counts, Traffic}
use Rattle.tk_hub.specs.Visitor.{BeginsWithHello, IsAwaited, IsSteady, IsStrange, VisitorView, hello_of}
use Rattle.tk_hub.specs.declared.visitor.Greeting.{Greeting}
use Rattle.tk_hub.specs.declared.visitor.Greeting.TheVariants as g

-- the bytes of the frame that was read, if one was
abbrev pub bytes_of : Option Frame → List ℕ
bytes_of (Some frame) = spelling 1 frame
bytes_of None = []

-- a frame with a spelling, as long as that of a Hello
pub record IsAsLong (frame : Frame) : Type 0 where
  pub spelled : IsSpelling 1 frame (spelling 1 frame)
  pub size : length (spelling 1 frame) ≡ 18

-- the frame that was read is so
abbrev pub IsFront : Option Frame → Type 0
IsFront (Some frame) = IsAsLong frame
IsFront None = ⊤

-- all that came is kept, nothing went, and the wire's count covers it
pub record IsWaiting (tells : Bool) (traffic : Traffic) (counts : Counts) (bytes : List ℕ) : Type 0 where
  pub came : tells ≡ true → traffic.came ≡ bytes
  pub went : tells ≡ true → traffic.went ≡ []
  pub covered : min (length bytes) (2 ^ 64 - 1) ≤ counts.taken

-- a frame leaves the front of the bytes
pub record Leaves (frame : Frame) (old new : List ℕ) : Type 0 where
  pub as_long : IsAsLong frame
  pub parts : old ≡ spelling 1 frame ++ new

-- what a read answers, and what it leaves: a frame as long as a Hello leaves the bytes, and nothing else does
abbrev pub Reads : Result (Option Frame) Greeting → List ℕ → List ℕ → Type 0
Reads (Ok (Some frame)) old new = Leaves frame old new
Reads (Ok None) old new = IsAwaited old × (new ≡ old)
Reads (Err g.Nothing) old new = ⊥
Reads (Err (g.Hello guest)) old new = ⊥
Reads (Err g.Strange) old new = ((run : ℕ) → IsStrange run old) × (new ≡ old)
Reads (Err g.NoMemory) old new = new ≡ old

-- what a first frame says to a run
abbrev pub judged : ℕ → Frame → Greeting
judged run (f.Hello told version mon) = if told == run then g.Hello (record { mon = mon; version = version }) else g.Strange
judged run (f.Report seq border failed values) = g.Strange
judged run (f.Collect round objects) = g.Strange
judged run (f.Values round seq border values) = g.Strange
judged run (f.Assign seq members changes) = g.Strange
judged run (f.Settled seq last places) = g.Strange
judged run f.Stop = g.Strange

-- the bytes that came, with their front where it is read, say this greeting
abbrev pub Says : ℕ → List ℕ → Option Frame → Greeting → Type 0
Says run bytes front g.Nothing = ⊥
Says run bytes front (g.Hello guest) = BeginsWithHello run guest bytes × (front ≡ Some (hello_of run guest))
Says run bytes front g.Strange = IsStrange run bytes
Says run bytes front g.NoMemory = ⊤

-- less came than a Hello, and now more did
pub record HasMore {W : Type 0} (old new : VisitorView W) : Type 0 where
  pub part : length old.bytes < 18
  pub longer : length old.bytes < length new.bytes
  pub steady : IsSteady old.counts new.counts
