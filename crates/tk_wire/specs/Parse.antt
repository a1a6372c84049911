-- A stream of bytes as frames.
use Rattle.std.specs.Prelude.{◌≡◌, ℕ, List, ◌++◌}
use Rattle.std.specs.List.{flat_map, AllByRecursion}
use Rattle.tk_frames.specs.declared.frame.Frame.{Frame}
use Rattle.tk_frames.specs.declared.answer.Next.TheVariants.{Whole}
use Rattle.tk_frames.specs.Answer.{Answers}
use Rattle.tk_frames.specs.Spelling.{IsSpelling, spelling}

-- the bytes of frames, one behind the other
abbrev pub spellings : ℕ → List Frame → List ℕ
spellings version frames = flat_map (spelling version) frames

-- each of the frames has a spelling in this version
abbrev pub HaveSpellings : ℕ → List Frame → Type 0
HaveSpellings version frames = AllByRecursion (λ frame. IsSpelling version frame (spelling version frame)) frames

-- these frames are a front of the parse of the bytes, and the rest stands behind them
pub record IsParse (version : ℕ) (frames : List Frame) (bytes rest : List ℕ) : Type 0 where
  pub each : HaveSpellings version frames
  pub parts : bytes ≡ spellings version frames ++ rest

-- no whole frame stands at the front
abbrev pub HasNoFrame : ℕ → List ℕ → Type 0
HasNoFrame version bytes = (frame : Frame) (size : ℕ) → Answers version bytes (Whole frame size) → ⊥

-- what was given, and what is left, are together the bytes of these frames
pub record IsEncoding (version : ℕ) (frames : List Frame) (given left : List ℕ) : Type 0 where
  pub each : HaveSpellings version frames
  pub parts : given ++ left ≡ spellings version frames
