use Rattle.std.proofs.Common.{◌≡◌, arith, refl}
use Rattle.std.proofs.lemmas.List.Elements.{All-push}
use Rattle.tk_coord.specs.Keeping.{first_peer}
use Rattle.tk_coord.proofs.ElementLemmas.{all_read}
use Rattle.tk_coord.specs.declared.peer.Peer.{Peer}
use Rattle.tk_coord.proofs.peer.new_peers.Goals as goal

pub loop-j-preserved : goal.loop-j-preserved
loop-j-preserved c = record {
  len = omega (arith, c.push_reserved.ensures.len, c.loop-j.invariant.len);
  room = omega (arith, c.push_reserved.ensures.capacity, c.loop-j.invariant.room);
  each = rw c.push_reserved.ensures.items (All-push (λ (k : Peer). k ≡ first_peer) c.loop-j.peers.items first_peer c.loop-j.invariant.each refl);
}

pub returns-clause-each : goal.returns-clause-each
returns-clause-each c = λ i l there. all_read (λ (k : Peer). k ≡ first_peer) c.loop-j.peers.items i l c.loop-j.invariant.each there
