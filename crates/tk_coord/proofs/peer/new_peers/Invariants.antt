use Rattle.std.proofs.Common.{◌≡◌, ◌≤◌, vec_capacity, vec_len}
use Rattle.std.specs.List.{All}
use Rattle.tk_coord.specs.Keeping.{first_peer}
use Rattle.tk_coord.specs.declared.peer.Peer.{Peer}
use Rattle.tk_coord.proofs.peer.new_peers.Given as goal

-- a peer of each monitor up to here, and room for the others
abbrev pub invariant-loop-j : goal.invariant-loop-j
invariant-loop-j l = record {
  len : vec_len l.peers ≡ l.j;
  room : l.monitors ≤ vec_capacity l.peers;
  each : All (λ (k : Peer). k ≡ first_peer) l.peers.items;
}
