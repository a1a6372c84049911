-- What is told before the ends are joined. No public clause cites it.
use Rattle.std.specs.Prelude.{Bool, if◌then◌else◌, Option, Some, None}
use Rattle.tk_load.specs.declared.status.Status.{Status}
use Rattle.tk_load.specs.declared.status.Status.TheVariants as st
use Rattle.tk_serve.specs.declared.served.Why.{Why}
use Rattle.tk_serve.specs.declared.served.Why.TheVariants as w
use Rattle.tk_wire.specs.declared.net.NetFault.{NetFault}
use Rattle.tk_wire.specs.declared.net.NetFault.TheVariants as fault
use Rattle.tk_live.specs.Crew.{graver}
use Rattle.tk_live.specs.Parting.{hub_why}
use Rattle.tk_live.specs.declared.parting.Parting.{Parting}

-- of a failed link or net: where no count of faults rose, there was no memory
abbrev pub link_told : Bool → Status
link_told risen = if risen then st.LinkFault else st.NoMemory

-- of a fault of the net, before any worker was started
abbrev pub net_told : NetFault → Bool → Status
net_told fault.Failed risen = link_told risen
net_told fault.NoMemory risen = st.NoMemory

-- where something was not taken, the ends tell it
abbrev pub odd_told : Bool → Option Status
odd_told odd = if odd then None else Some st.NoMemory

-- of a cause: nothing after Stop, where the ends are joined
abbrev pub cause_told : Why → Bool → Bool → Option Status
cause_told w.Stopped odd risen = None
cause_told w.Odd odd risen = odd_told odd
cause_told w.NoMemory odd risen = Some st.NoMemory
cause_told w.Failed odd risen = Some (link_told risen)

-- of the hub's cause beside that of its workers
abbrev pub causes_told : Option Why → Why → Bool → Bool → Option Status
causes_told None cause odd risen = Some st.WriteFault
causes_told (Some why) cause odd risen = cause_told (graver why cause) odd risen

-- a line that was not written, or else the graver of why the hub and why its workers ended
abbrev pub unjoined : Parting → Why → Bool → Bool → Option Status
unjoined parting cause odd risen = causes_told (hub_why parting) cause odd risen
