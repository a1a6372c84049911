-- A stand-in, as contracts see it.
use Rattle.std.specs.Prelude.{ℕ, ◌≡◌, Bool, [], ◌∷◌}
use Rattle.tk_base.specs.Settings.{Setup}
use Rattle.tk_input.specs.Changes.{closing}
use Rattle.tk_monitor.specs.Monitored.{made}
use Rattle.tk_port.specs.Port.{PortView}
use Rattle.tk_wire.specs.Meanings.{Counts}
use Rattle.tk_wire.specs.PipeWire.{MemoryWire}

-- a stand-in: its port, its counts as those of a wire, and whether it was shut
pub record StandInView : Type 0 where
  pub port : PortView MemoryWire
  pub counts : Counts
  pub shut : Bool

-- a stand-in for a monitor of a run: its one stream is open and gave nothing, and nothing was given to it
pub record IsUnfed (settings : Setup) (mon number : ℕ) (s : StandInView) : Type 0 where
  pub monitor : s.port.monitor ≡ made settings mon ((closing ∷ []) ∷ []) (0 ∷ [])
  pub run : s.port.run ≡ number
  pub counts : s.counts ≡ record { faults = 0; ends = 0; taken = 0 }
