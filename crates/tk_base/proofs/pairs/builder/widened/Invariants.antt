use Rattle.std.proofs.Common.{◌≡◌, ◌<◌, length, map, take}
use Rattle.std.specs.Prelude.{vec_len, vec_capacity}
use Rattle.tk_base.specs.Pairs.{pairs_of, narrow_pair_of}
use Rattle.tk_base.proofs.pairs.builder.widened.Given as goal

-- the pairs so far are the same, and there is room for the others and for one more
abbrev pub invariant-loop-narrow : goal.invariant-loop-narrow
invariant-loop-narrow l = record {
  same : pairs_of l.wide.items ≡ map narrow_pair_of (take l.narrow-index l.list);
  len : vec_len l.wide ≡ l.narrow-index;
  room : length l.list < vec_capacity l.wide;
}
