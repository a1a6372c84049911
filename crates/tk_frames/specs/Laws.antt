-- What holds of every frame and every spelling.
use Rattle.std.specs.Prelude.{ℕ, ◌≡◌, List, ◌++◌, length}
use Rattle.tk_frames.specs.Answer.{Answers}
use Rattle.tk_frames.specs.Spelling.{IsSpelling, IsVersion}
use Rattle.tk_frames.specs.declared.answer.Next.TheVariants.{Whole}
use Rattle.tk_frames.specs.declared.frame.Frame.{Frame}

-- two spellings of a version at the front of the same bytes are one, and of one frame
abbrev pub NoSpellingBeginsAnother : Type 0
NoSpellingBeginsAnother =
    (version : ℕ) (f g : Frame) (a b x y : List ℕ)
    → IsVersion version → IsSpelling version f a → IsSpelling version g b → a ++ x ≡ b ++ y → (f ≡ g) × (a ≡ b)

-- a spelling is answered as its frame, whatever follows it
abbrev pub WhatWasEncodedIsReadAgain : Type 0
WhatWasEncodedIsReadAgain =
    (version : ℕ) (frame : Frame) (bytes rest : List ℕ)
    → IsVersion version → IsSpelling version frame bytes → Answers version (bytes ++ rest) (Whole frame (length bytes))
