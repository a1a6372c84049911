-- Frames that were said at one end of a stream of bytes and heard at the other.
use Rattle.std.specs.Prelude.{ℕ, List}
use Rattle.tk_base.specs.History.{IsFront}
use Rattle.tk_frames.specs.declared.frame.Frame.{Frame}
use Rattle.tk_wire.specs.Joint.{BeginsWith}
use Rattle.tk_wire.specs.Parse.{IsEncoding, IsParse}

-- one way of a connection: of the frames that were said bytes went as far as they went; what came is a front of what went,
-- and of what came these frames were heard
pub record IsCarried (version : ℕ) (said heard : List Frame) : Type 0 where
  pub went : List ℕ
  pub left : List ℕ
  pub came : List ℕ
  pub unread : List ℕ
  pub gave : IsEncoding version said went left
  pub took : IsParse version heard came unread
  pub ordered : BeginsWith came went

-- what was heard is a front of what was said
abbrev pub CarriedIsAFront : Type 0
CarriedIsAFront = (version : ℕ) (said heard : List Frame) → IsCarried version said heard → IsFront heard said
