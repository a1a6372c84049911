use Rattle.std.proofs.Common.{◌≡◌, ℕ, ◌+◌, ◌-◌, length}
use Rattle.tk_base.specs.Ascending.{numbers_of}
use Rattle.tk_border.specs.Levels.{resolution, IsPassed}
use Rattle.tk_border.proofs.union.resolution.Given as goal

-- both walks have passed an object b, and the resolution set up to it is kept
abbrev pub invariant-loop-i : goal.invariant-loop-i
invariant-loop-i l =
    (b : ℕ) × record {
      of_members : IsPassed l.members l.i (b + 1);
      of_failed : IsPassed l.failed l.j (b + 1);
      list : numbers_of l.list.items ≡ resolution b l.members l.failed;
    }

abbrev pub decreases-loop-i : goal.decreases-loop-i
decreases-loop-i l = length l.members + length l.failed - (l.i + l.j)
