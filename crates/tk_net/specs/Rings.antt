-- The rings under a link in memory. No public clause cites it.
use Rattle.std.specs.Prelude.{◌≡◌}
use Rattle.rtrb.specs.Ring.{producer_capacity}
use Rattle.tk_net.specs.declared.ring.RingEnds.{RingEnds}

-- one end gives into a ring of 65,536 bytes
abbrev pub HasRoom : RingEnds → Type 0
HasRoom ends = producer_capacity ends.outbox ≡ 65536
