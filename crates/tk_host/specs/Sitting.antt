-- A session while it goes on, as contracts see it.
use Rattle.std.specs.Prelude.{ℕ, List, Option}
use Rattle.tk_hub.specs.Hub.{HubView}
use Rattle.tk_host.specs.declared.seat.Seat.{Seat}
use Rattle.tk_host.specs.declared.tally.Tally.{Tally}

-- its hub, the seats that are taken, how many sets are told, the bytes of its frames that are counted, and after how many
-- seconds a stand-in takes a seat, if ever
pub record SessionView (W : Type 0) : Type 0 where
  pub hub : HubView W
  pub roster : List Seat
  pub told : ℕ
  pub tally : Tally
  pub missing : Option ℕ
