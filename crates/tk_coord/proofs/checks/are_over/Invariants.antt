use Rattle.std.proofs.Common.{◌≡◌, ℕ, ◌<◌, get_or}
use Rattle.tk_base.specs.Pairs.{objects_of}
use Rattle.tk_coord.proofs.checks.are_over.Given as goal

abbrev pub invariant-loop-i : goal.invariant-loop-i
invariant-loop-i l = (k : ℕ) → k < l.i → get_or (objects_of l.values) k 0 ≡ get_or l.asked k 0
