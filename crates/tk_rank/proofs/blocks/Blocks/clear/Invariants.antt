use Rattle.std.proofs.Common.{◌≡◌, map, replicate, vec_capacity, None}
use Rattle.tk_rank.proofs.blocks.Blocks.clear.Given as goal

-- so many leaves are there, all empty
abbrev pub invariant-loop : goal.invariant-loop
invariant-loop g l = record {
  items : map g.N.Node.number l.self-inside.leaves.items ≡ replicate l.counter None;
  room : vec_capacity l.self-inside.leaves ≡ l.fn.self.room;
  nodes : l.self-inside.nodes ≡ l.initial.self-inside.nodes;
}
