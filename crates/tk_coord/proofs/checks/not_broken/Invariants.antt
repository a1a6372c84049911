use Rattle.std.proofs.Common.{◌≡◌, ℕ, ◌<◌, false, not, get_or}
use Rattle.tk_border.specs.Levels.{is_above}
use Rattle.tk_journal.specs.Refusal.{least_in, level_in}
use Rattle.tk_coord.specs.Checks.{known_in}
use Rattle.tk_coord.proofs.checks.not_broken.Given as goal

abbrev pub invariant-loop-i : goal.invariant-loop-i
invariant-loop-i l = (k : ℕ) (d : ℕ) → k < l.i → not (is_above (least_in (known_in l.known) l.values) (level_in (known_in l.known) l.values (get_or l.failed k d))) ≡ false
