-- What stands at the front of some bytes that are held. No public clause cites it.
use Rattle.std.specs.Prelude.{◌≡◌, ℕ, ◌<◌, ◌≤◌, Bool, true, false, List, [], ◌∷◌, ◌++◌, length, drop}
use Rattle.std.specs.Str.Lines.{lines}
use Rattle.tk_stream.specs.Lines.{behind_feed}
use Rattle.tk_stream.specs.declared.front.Front.{Front}
use Rattle.tk_stream.specs.declared.front.Front.TheVariants as f

-- a line stands in front of all that may follow, and takes so many bytes; where nothing follows, that is so at the end alone
pub record IsLine (line held : List ℕ) (taken : ℕ) (ended : Bool) : Type 0 where
  pub fits : taken ≤ length held
  pub first : (more : List ℕ) → (ended ≡ true → more ≡ []) → lines (held ++ more) ≡ line ∷ lines (drop taken held ++ more)

-- whatever follows, the first line has over 65,536 bytes, and the others stand behind the next line feed
abbrev pub IsTooLong : List ℕ → Type 0
IsTooLong held = (more : List ℕ) → (line : List ℕ) × (65536 < length line) × (lines (held ++ more) ≡ line ∷ lines (behind_feed more))

-- what stands at the front of what is held
abbrev pub IsFront : Front → List ℕ → Bool → Type 0
IsFront (f.Line line taken) held ended = IsLine line.now held taken ended
IsFront f.TooLong held ended = IsTooLong held
IsFront f.Part held ended = (length held < 65538) × (ended ≡ false)
IsFront f.Nothing held ended = (held ≡ []) × (ended ≡ true)
