use Rattle.std.proofs.Common.{◌≡◌, ℕ, ◌<◌, true, get_or}
use Rattle.std.specs.Prelude.{nat_le}
use Rattle.tk_coord.proofs.checks.are_places.Given as goal

abbrev pub invariant-loop-f : goal.invariant-loop-f
invariant-loop-f l = (k : ℕ) → k < l.f → nat_le (get_or l.places k 0) 1000000 ≡ true
