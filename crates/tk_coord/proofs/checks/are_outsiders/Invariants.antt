use Rattle.std.proofs.Common.{◌≡◌, ℕ, ◌<◌, ◌&&◌, true, not, get_or}
use Rattle.std.specs.Prelude.{nat_le}
use Rattle.tk_base.specs.Objects.{is_in}
use Rattle.tk_coord.specs.Checks.{known_in}
use Rattle.tk_coord.proofs.checks.are_outsiders.Given as goal

abbrev pub invariant-loop-i : goal.invariant-loop-i
invariant-loop-i l = (k : ℕ) → k < l.i → (nat_le (get_or l.failed k 0) l.known.objects && not (is_in (known_in l.known).members (get_or l.failed k 0))) ≡ true
