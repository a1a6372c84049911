-- The turns that the coordinator keeps, and what it counts of them. No public clause cites this.
use Rattle.std.specs.Prelude.{ℕ, ◌+◌, nat_lt, if◌then◌else◌, List}
use Rattle.tk_journal.specs.declared.turn.Turn.{Turn}

-- the turns, and for how many more there is room
pub record TurnsView : Type 0 where
  pub list : List Turn
  pub spare : ℕ

-- a count, up to eight
abbrev pub up_to_eight : ℕ → ℕ
up_to_eight n = if nat_lt n 8 then n else 8

-- one more failure, counted up to eight
abbrev pub next_streak : ℕ → ℕ
next_streak count = if nat_lt count 8 then count + 1 else count

-- the short tests that failed in a row after one more turn, counted up to eight
abbrev pub streak_with : ℕ → Turn → ℕ
streak_with count turn = if turn.calm then 0 else (if turn.fails then next_streak count else count)
