-- What stands at the front of some bytes: a frame, a part of one, or neither.
use Rattle.std.specs.Prelude.{◌≡◌, ◌<◌, ◌≤◌, ◌⊎◌, ◌+◌, ℕ, List, ◌∷◌, ◌++◌, length, take}
use Rattle.byteorder.specs.Endian.{big_number}
use Rattle.tk_frames.specs.declared.frame.Frame.{Frame}
use Rattle.tk_frames.specs.declared.kind.Kind.{Kind}
use Rattle.tk_frames.specs.declared.answer.Next.{Next}
use Rattle.tk_frames.specs.declared.answer.Next.TheVariants.{Whole, Part, Bad}
use Rattle.tk_frames.specs.declared.answer.BadFrame.TheVariants.{BadLength, BadKind, BadFields}
use Rattle.tk_frames.specs.Spelling.{IsFrame, IsLength, IsSpelling, payload, code_of, framed}

-- the first bytes are a frame's
pub record HasFrame (version : ℕ) (frame : Frame) (size : ℕ) (bytes : List ℕ) : Type 0 where
  pub within : size ≤ length bytes
  pub front : IsSpelling version frame (take size bytes)

-- no length is whole yet, or it is one of a payload that is not whole yet
abbrev pub IsPart : List ℕ → Type 0
IsPart bytes = (length bytes < 4) ⊎ (IsLength (big_number 4 bytes) × (length bytes < 4 + big_number 4 bytes))

-- the length is whole, and no payload can be so long
pub record HasBadLength (size : ℕ) (bytes : List ℕ) : Type 0 where
  pub whole : 4 ≤ length bytes
  pub size_is : size ≡ big_number 4 bytes
  pub no_length : IsLength size → ⊥

-- a whole payload of these bytes stands behind its length
pub record HasPayload (payload bytes : List ℕ) : Type 0 where
  pub size : IsLength (length payload)
  pub rest : List ℕ
  pub parts : bytes ≡ framed payload ++ rest

-- a whole payload begins with a byte that is no kind's
pub record HasBadKind (code : ℕ) (bytes : List ℕ) : Type 0 where
  pub behind : List ℕ
  pub stands : HasPayload (code ∷ behind) bytes
  pub no_kind : (kind : Kind) → code ≡ code_of kind → ⊥

-- a whole payload begins with the byte of a kind, and is no frame's
pub record HasBadFields (version : ℕ) (kind : Kind) (bytes : List ℕ) : Type 0 where
  pub behind : List ℕ
  pub stands : HasPayload (code_of kind ∷ behind) bytes
  pub no_frame : (frame : Frame) → IsFrame frame → code_of kind ∷ behind ≡ payload version frame → ⊥

-- a whole payload begins with the byte of a kind: its fields are read, and that alone can want memory
pub record HasKind (bytes : List ℕ) : Type 0 where
  pub kind : Kind
  pub behind : List ℕ
  pub stands : HasPayload (code_of kind ∷ behind) bytes

-- this is what stands at the front of the bytes
abbrev pub Answers : ℕ → List ℕ → Next → Type 0
Answers version bytes (Whole frame size) = HasFrame version frame size bytes
Answers version bytes Part = IsPart bytes
Answers version bytes (Bad (BadLength size)) = HasBadLength size bytes
Answers version bytes (Bad (BadKind code)) = HasBadKind code bytes
Answers version bytes (Bad (BadFields kind)) = HasBadFields version kind bytes
