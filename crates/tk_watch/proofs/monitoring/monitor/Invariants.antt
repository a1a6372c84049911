use Rattle.tk_watch.specs.Watch.{named_of}
use Rattle.tk_watch.proofs.monitoring.monitor.Given as goal

-- the name of the watch that is given
abbrev pub ghosts-monitor_as : goal.ghosts-monitor_as
ghosts-monitor_as g a = record { named = named_of a.watch }
