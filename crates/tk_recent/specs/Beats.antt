-- Ticks by a clock.
use Rattle.std.specs.Prelude.{ℕ, ◌-◌, ◌/◌}

-- when the first tick began, in nanoseconds of the clock; how many seconds each has; and how many have ended
pub record Beats : Type 0 where
  pub begun : ℕ
  pub seconds : ℕ
  pub ended : ℕ

-- how many ticks have passed whole at a moment
abbrev pub periods : Beats → ℕ → ℕ
periods b now = (now - b.begun) / 1000000000 / b.seconds
