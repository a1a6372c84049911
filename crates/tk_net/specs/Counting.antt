-- How nets and links begin, and what the answer of a call adds to their counts.
use Rattle.std.specs.Prelude.{ℕ, [], Bool, false}
use Rattle.tk_wire.specs.Meanings.{Traffic, Counts, raised_by}
use Rattle.tk_wire.specs.Net.{NetState}
use Rattle.tk_wire.specs.declared.net.NetFault.{NetFault}
use Rattle.tk_wire.specs.declared.net.NetFault.TheVariants.{Failed, NoMemory}

-- the counts of a link that nothing has passed
abbrev pub no_counts : Counts
no_counts = record { faults = 0; ends = 0; taken = 0 }

-- a link over a socket: its counts, and whether it was shut
pub record SocketView : Type 0 where
  pub counts : Counts
  pub shut : Bool

-- a link over a socket, before any byte
abbrev pub new_socket_link : SocketView
new_socket_link = record { counts = no_counts; shut = false }

-- a net that was just made
abbrev pub new_net : NetState
new_net = record { listens = false; links = 0; faults = 0; taken = 0 }

-- a count of faults after one more
abbrev pub with_fault : NetFault → ℕ → ℕ
with_fault Failed faults = raised_by 1 faults
with_fault NoMemory faults = faults

-- what stands for the bytes of a link that tells none
abbrev pub untold : Traffic
untold = record { came = []; waiting = []; went = []; held = []; room = 0 }
