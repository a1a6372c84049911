-- A wire in memory of which no call fails, as contracts see it.
use Rattle.std.specs.Prelude.{ℕ, Bool}
use Rattle.tk_wire.specs.Meanings.{Counts, Traffic}

-- its bytes, how many were taken, and whether it was shut
pub record SureView : Type 0 where
  pub traffic : Traffic
  pub taken : ℕ
  pub shut : Bool

-- no call failed, and none found the end
abbrev pub counts_sure : SureView → Counts
counts_sure w = record { faults = 0; ends = 0; taken = w.taken }

-- the wire with other bytes on it
abbrev pub bearing_sure : Traffic → SureView → SureView
bearing_sure traffic w = record w { traffic = traffic }

-- how many bytes go to or from a pipe at once, at most
abbrev pub most_sure : SureView → ℕ
most_sure w = 65536
