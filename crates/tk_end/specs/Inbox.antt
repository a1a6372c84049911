-- Bytes that came, of which the first frame may be read already. No public clause cites it but for what a read leaves.
use Rattle.std.specs.Prelude.{◌≡◌, ℕ, List, [], ◌++◌, length, take, Option, Some, None, Result, Ok, Err}
use Rattle.tk_base.specs.declared.memory.NoMemory.{NoMemory}
use Rattle.tk_frames.specs.declared.frame.Frame.{Frame}
use Rattle.tk_frames.specs.declared.answer.Next.TheVariants as n
use Rattle.tk_frames.specs.declared.answer.BadFrame.{BadFrame}
use Rattle.tk_frames.specs.declared.answer.BadFrame.TheVariants.{BadLength, BadKind, BadFields}
use Rattle.tk_frames.specs.Answer.{Answers, HasBadLength, HasPayload}
use Rattle.tk_frames.specs.Spelling.{IsFrame, IsSpelling, payload, spelling}
use Rattle.tk_end.specs.declared.inbox.Reading.{Reading}
use Rattle.tk_end.specs.declared.inbox.Reading.TheVariants as r

-- the version in which frames are read, the bytes that are not taken as frames, and the first frame of them, where it
-- is read already
pub record Inbox : Type 0 where
  pub version : ℕ
  pub unread : List ℕ
  pub front : Option Frame

-- the bytes of a frame that was read, if one was
abbrev pub bytes_of : ℕ → Option Frame → List ℕ
bytes_of version (Some frame) = spelling version frame
bytes_of version None = []

-- the frame that was read has a spelling
abbrev pub IsSpelled : ℕ → Option Frame → Type 0
IsSpelled version (Some frame) = IsSpelling version frame (spelling version frame)
IsSpelled version None = Unit {0}

-- the frame leaves the front of the bytes
pub record Leaves (version : ℕ) (frame : Frame) (old new : List ℕ) : Type 0 where
  pub spelled : IsSpelling version frame (spelling version frame)
  pub parts : old ≡ spelling version frame ++ new

-- what a read answers, and what it leaves: a whole frame leaves the bytes, and nothing else does
abbrev pub Reads : Result Reading NoMemory → ℕ → List ℕ → List ℕ → Type 0
Reads (Ok (r.Whole frame)) version old new = Leaves version frame old new
Reads (Ok r.Part) version old new = Answers version old n.Part × (new ≡ old)
Reads (Ok (r.Bad fault)) version old new = Answers version old (n.Bad fault) × (new ≡ old)
Reads (Err e) version old new = new ≡ old

-- a whole payload stands at the front
pub record HasSome (unread : List ℕ) : Type 0 where
  pub bytes : List ℕ
  pub stands : HasPayload bytes unread

-- a whole payload at the front that is no frame's
pub record IsOddPayload (version : ℕ) (unread odd : List ℕ) : Type 0 where
  pub stands : HasPayload odd unread
  pub no_frame : (frame : Frame) → IsFrame frame → odd ≡ payload version frame → ⊥

-- bytes at the front that are no frame: the four bytes of a length that none has, or such a payload
abbrev pub IsOdd : ℕ → BadFrame → List ℕ → List ℕ → Type 0
IsOdd version (BadLength size) unread odd = HasBadLength size odd × (length odd ≡ 4) × (odd ≡ take 4 unread)
IsOdd version (BadKind code) unread odd = IsOddPayload version unread odd
IsOdd version (BadFields kind) unread odd = IsOddPayload version unread odd
