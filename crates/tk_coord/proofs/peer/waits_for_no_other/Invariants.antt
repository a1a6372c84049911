use Rattle.std.proofs.Common.{◌≡◌, ◌≢◌, ℕ, ◌<◌, false, Some}
use Rattle.std.specs.Prelude.{slice_get}
use Rattle.tk_coord.specs.declared.peer.Peer.{Peer}
use Rattle.tk_coord.proofs.peer.waits_for_no_other.Given as goal

-- the round waits for none of the others up to here
abbrev pub invariant-loop-other : goal.invariant-loop-other
invariant-loop-other l = (i : ℕ) (v : Peer) → i < l.other → i ≢ l.place → slice_get l.peers i ≡ Some v → v.waits ≡ false
