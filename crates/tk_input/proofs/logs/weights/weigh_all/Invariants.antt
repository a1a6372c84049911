use Rattle.std.proofs.Common.{◌≡◌, ◌+◌, ◌<◌, ℕ, length, get_or, take}
use Rattle.tk_input.specs.Logs.{weight_of}
use Rattle.tk_input.specs.Rows.{capped}
use Rattle.tk_input.proofs.logs.weights.weigh_all.Given as goal

-- the parts so far are weighed
abbrev pub invariant-loop-part : goal.invariant-loop-part
invariant-loop-part l = (k : ℕ) → k < length l.weights → get_or l.weights k 0 ≡ capped (get_or l.fn.weights k 0 + weight_of (take l.part-index l.row) (k + 1))
