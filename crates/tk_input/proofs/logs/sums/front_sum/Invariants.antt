use Rattle.std.proofs.Common.{◌≡◌, take}
use Rattle.tk_input.specs.Logs.{sum_for}
use Rattle.tk_input.proofs.logs.sums.front_sum.Given as goal

-- the changes so far are summed
abbrev pub invariant-loop-i : goal.invariant-loop-i
invariant-loop-i l = l.sum ≡ sum_for l.obj.0 (take l.i l.changes)
