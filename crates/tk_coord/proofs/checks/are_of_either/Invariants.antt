use Rattle.std.proofs.Common.{◌≡◌, ℕ, ◌<◌, ◌||◌, true, get_or}
use Rattle.tk_base.specs.Objects.{is_in}
use Rattle.tk_base.specs.Pairs.{objects_of}
use Rattle.tk_coord.proofs.checks.are_of_either.Given as goal

abbrev pub invariant-loop-i : goal.invariant-loop-i
invariant-loop-i l = (k : ℕ) → k < l.i → (is_in l.first (get_or (objects_of l.values) k 0) || is_in l.second (get_or (objects_of l.values) k 0)) ≡ true
