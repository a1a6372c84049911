-- Where a monitor stands, as contracts see it.
use Rattle.std.specs.Prelude.{Option, Some, None}
use Rattle.tk_monitor.specs.Monitored.{MonitorView}
use Rattle.tk_port.specs.Port.{PortView}

-- the monitor, and its end of a connection where there is one
pub record StandingView (W : Type 0) : Type 0 where
  pub monitor : MonitorView
  pub port : Option (PortView W)

-- a monitor in place of a port's own, where there is a port
abbrev pub port_over : {W : Type 0} → Option (PortView W) → MonitorView → Option (PortView W)
port_over None monitor = None
port_over (Some port) monitor = Some (record port { monitor = monitor })

-- a monitor in place of the one that stands there
abbrev pub over : {W : Type 0} → StandingView W → MonitorView → StandingView W
over s monitor = record { monitor = monitor; port = port_over s.port monitor }
