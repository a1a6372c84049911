use Rattle.std.proofs.Common.{ℕ, ◌<◌}
use Rattle.tk_alloc.specs.Search.{AreWithin, by_node}
use Rattle.tk_alloc.proofs.limit.within_limit.Given as goal

-- the objects so far are within the limit
abbrev pub invariant-loop-place : goal.invariant-loop-place
invariant-loop-place l = (j : ℕ) → j < l.place → AreWithin (by_node l.change) j
