-- How a session is left by what a call answers. No public clause cites it.
use Rattle.tk_wire.specs.declared.net.NetFault.{NetFault}
use Rattle.tk_wire.specs.declared.net.NetFault.TheVariants as fault
use Rattle.tk_host.specs.declared.cause.Cause.TheVariants as c
use Rattle.tk_host.specs.declared.coordinated.Coordinated.{Coordinated}
use Rattle.tk_host.specs.declared.coordinated.Coordinated.TheVariants as d
use Rattle.tk_host.specs.declared.over.Over.{Over}
use Rattle.tk_host.specs.declared.over.Over.TheVariants as o

-- by a fault of the host
abbrev pub over_by : NetFault → Over
over_by fault.Failed = o.HostFailed
over_by fault.NoMemory = o.Ended c.Memory

-- the process ends by a fault of the host
abbrev pub end_by : NetFault → Coordinated
end_by fault.Failed = d.LinkFault
end_by fault.NoMemory = d.NoMemory
