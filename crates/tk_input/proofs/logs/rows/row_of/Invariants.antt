use Rattle.std.proofs.Common.{◌≡◌, take}
use Rattle.tk_input.specs.Judged.{feeders_of}
use Rattle.tk_input.proofs.logs.rows.row_of.Given as goal

-- the parts of the monitor so far are there
abbrev pub invariant-loop-at : goal.invariant-loop-at
invariant-loop-at l = l.row.items ≡ feeders_of (take l.at-index l.parts) l.mon.0
