use Rattle.std.proofs.Common.{◌≡◌, take}
use Rattle.tk_window.specs.Expanded.{sources_of}
use Rattle.tk_window.specs.TickEnds.{parts_in}
use Rattle.tk_load.proofs.changes.parts_from.Given as goal

-- the parts so far are there
abbrev pub invariant-loop-mon : goal.invariant-loop-mon
invariant-loop-mon l = l.parts.items ≡ parts_in (sources_of (take l.mon-index l.logs))
