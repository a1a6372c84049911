use Rattle.std.proofs.Common.{◌≡◌, ◌<◌, length, map, take}
use Rattle.std.specs.Prelude.{vec_len, vec_capacity}
use Rattle.tk_base.specs.Pairs.{narrow_pair_of}
use Rattle.tk_input.specs.Changes.{changes_of}
use Rattle.tk_input.proofs.changes.widened.Given as goal

-- the changes so far are the same, and there is room for the others and for one more
abbrev pub invariant-loop-narrow : goal.invariant-loop-narrow
invariant-loop-narrow l = record {
  same : changes_of l.wide.items ≡ map narrow_pair_of (take l.narrow-index l.list);
  len : vec_len l.wide ≡ l.narrow-index;
  room : length l.list < vec_capacity l.wide;
}
