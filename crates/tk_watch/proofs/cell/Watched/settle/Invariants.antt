use Rattle.std.specs.Prelude.{◌≡◌, length}
use Rattle.tk_watch.specs.Windows.{window_of}
use Rattle.tk_watch.proofs.TakingLemmas.{Settling}
use Rattle.tk_watch.proofs.cell.Watched.settle.Given as goal

-- what was to be taken back is told or is left, and no tick ended
abbrev pub invariant-loop-change : goal.invariant-loop-change
invariant-loop-change g l = Settling l.initial.self.watch l.self.watch l.initial.self.windows l.self.windows l.f × (l.self.ends ≡ l.initial.self.ends)

abbrev pub decreases-loop-change : goal.decreases-loop-change
decreases-loop-change g l = length (window_of l.self.windows l.f.0).back
