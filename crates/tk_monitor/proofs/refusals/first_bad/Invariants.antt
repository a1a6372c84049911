use Rattle.std.proofs.Common.{◌≡◌, ℕ, ℤ, ◌<◌, false, get_or}
use Rattle.tk_trail.specs.Refusal.{is_bad_change}
use Rattle.tk_monitor.proofs.refusals.first_bad.Given as goal

-- none of the changes passed is bad
abbrev pub invariant-loop-i : goal.invariant-loop-i
invariant-loop-i l = (k : ℕ) (d : ℕ × ℤ) → k < l.i → is_bad_change l.objects (get_or l.changes k d) ≡ false
