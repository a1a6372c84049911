use Rattle.std.specs.Prelude.{◌≡◌, filter, map, neg_ℤ, take}
use Rattle.std.specs.List.{enumerate_from}
use Rattle.tk_compact.specs.Compacted.{changes_something}
use Rattle.tk_recent.proofs.opposite.opposite.Given as goal

-- the opposites of the sums passed are there, but for zeros
abbrev pub invariant-loop-i : goal.invariant-loop-i
invariant-loop-i l = l.changes ≡ filter changes_something (enumerate_from 1 (take l.i (map neg_ℤ l.sums)))
