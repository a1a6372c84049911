use Rattle.std.proofs.Common.{◌≡◌, ◌<◌, ℕ, take, get_or}
use Rattle.std.specs.Prelude.{ℤ}
use Rattle.tk_monitor.specs.Factors.{factor_in, factors_over, HasFactor}
use Rattle.tk_monitor.proofs.factors.Factors.keep_over.Given as goal

-- the factors of the objects passed are listed and kept
abbrev pub invariant-loop-i : goal.invariant-loop-i
invariant-loop-i l = record {
  listed : l.list ≡ factors_over l.fn.self (take l.i l.changes);
  same : (q : ℕ) → factor_in l.self q ≡ factor_in l.fn.self q;
  kept : (k : ℕ) (d : ℕ × ℤ) → k < l.i → HasFactor l.self (get_or l.changes k d).0;
}
