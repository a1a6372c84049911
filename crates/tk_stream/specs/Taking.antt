-- What taking the line at the front does. No public clause cites it.
use Rattle.std.specs.Prelude.{◌≡◌, ℕ, ◌<◌, Bool, true, false, List, [], ◌∷◌, length}
use Rattle.tk_stream.specs.Line.{IsJudgedOf, judged_as, line_of}
use Rattle.tk_stream.specs.LineBuffer.{Held, left_in}
use Rattle.tk_stream.specs.declared.line.Judged.{Judged}
use Rattle.tk_stream.specs.declared.taking.Met.{Met}
use Rattle.tk_stream.specs.declared.taking.Met.TheVariants as m

-- the first of some lines is so, and the others are left
pub record IsNext (ticks : Bool) (names : List (List ℕ)) (judged : Judged) (lines left : List (List ℕ)) : Type 0 where
  pub line : List ℕ
  pub first : lines ≡ line ∷ left
  pub is : judged_as judged ≡ line_of ticks names line

-- what was met is at the front, whatever follows, and nothing does where the stream has ended
abbrev pub Meets : Bool → List (List ℕ) → Met → Held → Held → Bool → Type 0
Meets ticks names (m.Line judged) old new ended =
    (content : List ℕ) → (ended ≡ true → content ≡ []) → IsNext ticks names judged (left_in old content) (left_in new content)
Meets ticks names m.Part old new ended = (new ≡ old) × (length old.bytes < 65538) × (ended ≡ false)
Meets ticks names m.Nothing old new ended = (new ≡ old) × (old.bytes ≡ []) × (ended ≡ true)

-- a record is of one of so many objects, and a tick comes only where ticks are known
abbrev pub IsMetOf : Bool → ℕ → Met → Type 0
IsMetOf ticks objects (m.Line judged) = IsJudgedOf ticks objects judged
IsMetOf ticks objects m.Part = Unit {0}
IsMetOf ticks objects m.Nothing = Unit {0}
