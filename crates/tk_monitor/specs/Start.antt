-- From where a monitor starts. No public clause cites this file.
use Rattle.std.specs.Prelude.{◌≡◌, ℕ, ◌≤◌, ℤ, pos, List, [], length, replicate}
use Rattle.tk_monitor.specs.Board.{BoardView}
use Rattle.tk_monitor.specs.Kept.{values_on}

-- nothing counts yet
pub record AreZero (s : BoardView) : Type 0 where
  pub few : length s.levels ≤ 65536
  pub values : s.values ≡ replicate (length s.levels) (pos 0)
  pub levels : s.levels ≡ replicate (length s.levels) (pos 0)
  pub members : s.members ≡ []

-- a board without members stands at some places, over a catalogue of n: each level is the value
pub record StandsAt (n : ℕ) (parts : List (List (ℕ × ℤ))) (next : List ℕ) (s : BoardView) : Type 0 where
  pub values : s.values ≡ values_on n parts next
  pub levels : s.levels ≡ values_on n parts next
  pub members : s.members ≡ []
