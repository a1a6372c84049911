-- A monitor that begins anew, as contracts see it.
use Rattle.std.specs.Prelude.{[]}
use Rattle.tk_monitor.specs.Monitored.{MonitorView}
use Rattle.tk_compact.specs.Anew.{anew, open_streams}

-- the same monitor behind a base, with the closing records of its open streams and an empty trail
abbrev pub begun : MonitorView → MonitorView
begun monitor = record monitor {
  setup = anew monitor.setup monitor.trail (open_streams monitor.setup monitor.trail);
  trail = [];
}
