use Rattle.std.proofs.Common.{◌≡◌, take}
use Rattle.tk_input.specs.Logs.{total}
use Rattle.tk_input.specs.Rows.{logs_in}
use Rattle.tk_input.proofs.logs.sums.total_in.Given as goal

-- the monitors so far are summed
abbrev pub invariant-loop-j : goal.invariant-loop-j
invariant-loop-j l = l.total ≡ total (take l.j (logs_in l.rows)) l.obj.0 (take l.j l.cut)
