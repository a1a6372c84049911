use Rattle.std.proofs.Common.{◌≡◌, ◌+◌, ◌<◌, ℕ, length, get_or, take}
use Rattle.tk_input.specs.Logs.{weight_for}
use Rattle.tk_input.specs.Rows.{capped}
use Rattle.tk_input.proofs.logs.weights.weigh.Given as goal

-- the changes so far are weighed
abbrev pub invariant-loop-i : goal.invariant-loop-i
invariant-loop-i l = (k : ℕ) → k < length l.weights → get_or l.weights k 0 ≡ capped (get_or l.fn.weights k 0 + weight_for (k + 1) (take l.i l.changes))
