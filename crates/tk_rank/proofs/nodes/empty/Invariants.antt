use Rattle.std.proofs.Common.{◌≡◌, map, replicate, vec_capacity, None}
use Rattle.tk_rank.proofs.nodes.empty.Given as goal

abbrev pub invariant-loop : goal.invariant-loop
invariant-loop g l = record {
  items : map g.N.Node.number l.nodes.items ≡ replicate l.counter None;
  room : vec_capacity l.nodes ≡ vec_capacity l.fn.nodes;
}
