-- The parts of each monitor, as the list from which logs are made. No public clause cites it.
use Rattle.std.specs.Prelude.{ℕ}
use Rattle.tk_base.specs.declared.ids.Mon.{Mon}

-- a monitor
abbrev pub monitor : ℕ → Mon
monitor number = record { 0 = number }
