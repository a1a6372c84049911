use Rattle.std.proofs.Common.{◌≡◌, length, suc, take}
use Rattle.tk_coord.specs.Keeping.{AreChanged, assigned_at}
use Rattle.tk_coord.proofs.state.assign.Given as goal

-- each monitor with changes up to here was sent one more Assign
abbrev pub invariant-loop-change : goal.invariant-loop-change
invariant-loop-change l = (length l.peers ≡ length l.initial.peers) × AreChanged (λ i k. assigned_at (suc i) (take l.change-index l.changes) k) l.initial.peers l.peers
