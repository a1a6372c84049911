use Rattle.std.proofs.Common.{◌≡◌, take}
use Rattle.tk_window.specs.Expanded.{ends_shown, sources_of}
use Rattle.tk_window.specs.TickEnds.{ends_of}
use Rattle.tk_window.proofs.tick_ends.row_of.Given as goal

-- the logs of the monitor so far are there
abbrev pub invariant-loop-at : goal.invariant-loop-at
invariant-loop-at l = ends_shown l.row.items ≡ ends_of (sources_of (take l.at-index l.logs)) l.mon.0
