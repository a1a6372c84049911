use Rattle.std.proofs.Common.{◌≡◌, ℕ, ℤ, ◌<◌, false, get_or}
use Rattle.tk_coord.specs.Checks.{is_too_great}
use Rattle.tk_coord.proofs.checks.too_great.Given as goal

abbrev pub invariant-loop-i : goal.invariant-loop-i
invariant-loop-i l = (k : ℕ) (d : ℕ × ℤ) → k < l.i → is_too_great (get_or l.values k d).1 ≡ false
