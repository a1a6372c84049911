use Rattle.std.proofs.Common.{◌≡◌, not, length}
use Rattle.tk_coord.specs.declared.peer.Peer.{Peer}
use Rattle.tk_coord.specs.Keeping.{is_but}
use Rattle.tk_coord.proofs.PeerLemmas.{AreChangedTo}
use Rattle.tk_coord.proofs.peer.ask.Given as goal

-- the peers up to here wait, but for the one that is left out
abbrev pub invariant-loop-place : goal.invariant-loop-place
invariant-loop-place l = (length l.peers ≡ length l.initial.peers) × AreChangedTo (λ i (k : Peer). record k { waits = not (is_but l.but i) }) l.initial.peers l.peers l.place
