use Rattle.std.proofs.Common.{◌≡◌, length, map, set}
use Rattle.tk_rank.specs.Tree.{leaves_of}
use Rattle.tk_rank.proofs.NodeLemmas.{IsMending}
use Rattle.tk_rank.proofs.nodes.put.Given as goal

abbrev pub invariant-loop-child : goal.invariant-loop-child
invariant-loop-child g l =
    let number = g.N.Node.number in record {
      mending : IsMending (map number l.nodes) l.child;
      leaves : leaves_of (map number l.nodes) ≡ set (leaves_of (map number l.fn.nodes)) l.fn.place (number l.fn.leaf);
      size : length l.nodes ≡ length l.fn.nodes;
    }

abbrev pub decreases-loop-child : goal.decreases-loop-child
decreases-loop-child g l = l.child
