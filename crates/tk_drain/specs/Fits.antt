-- The records of specs/Moves that a turn may fit. No public clause but the bounds cites this file.
use Rattle.tk_drain.specs.Moves as moves
use Rattle.std.specs.Prelude.{ℕ}
use Rattle.tk_drain.specs.Moves.{Readings}

-- how many rounds the turn opens is the index
pub data Fits (m at : ℕ) (r r' : Readings) : ℕ → Type 0 where
  IsPlain : (stops : ℕ) → moves.Plain m at stops r r' → Fits m at r r' 0
  IsShort : (stops : ℕ) (sent : ℕ → ℕ) → moves.Short m at stops r r' sent → Fits m at r r' 0
  Opens : (stops : ℕ) (sent : ℕ → ℕ) → moves.Opens m at stops r r' sent → Fits m at r r' 1
  Ends : (stops : ℕ) (sent : ℕ → ℕ) → moves.Ends m at stops r r' sent → Fits m at r r' 0
  OpensNext : (stops : ℕ) (sent : ℕ → ℕ) → moves.OpensNext m at stops r r' sent → Fits m at r r' 1
  Lone : (stops : ℕ) (sent : ℕ → ℕ) → moves.Lone m at stops r r' sent → Fits m at r r' 1
  LoneOpens : (stops : ℕ) (sent : ℕ → ℕ) → moves.LoneOpens m at stops r r' sent → Fits m at r r' 2

-- some record that it fits
pub record FitsOne (m at : ℕ) (r r' : Readings) : Type 0 where
  pub opened : ℕ
  pub fits : Fits m at r r' opened
