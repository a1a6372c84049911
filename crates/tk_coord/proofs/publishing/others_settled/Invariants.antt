use Rattle.std.proofs.Common.{◌≡◌, ◌≢◌, ℕ, ◌<◌, Some, None, slice_get}
use Rattle.tk_coord.specs.Closing.{settled_by}
use Rattle.tk_coord.specs.declared.peer.Peer.{Peer}
use Rattle.tk_coord.proofs.publishing.others_settled.Given as goal

-- the others up to here have settled
abbrev pub invariant-loop-other : goal.invariant-loop-other
invariant-loop-other l = (i : ℕ) (k : Peer) → i < l.other → i ≢ l.place → slice_get l.peers i ≡ Some k → settled_by (Some k) ≢ None
