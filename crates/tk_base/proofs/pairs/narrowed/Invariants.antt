use Rattle.std.proofs.Common.{◌≡◌, ◌∷◌, length, map, take, slice_index}
use Rattle.std.specs.Prelude.{vec_len, vec_capacity}
use Rattle.tk_base.specs.Ascending.{IsAscending}
use Rattle.tk_base.specs.Pairs.{pairs_of, objects_of, narrow_pair_of}
use Rattle.tk_base.proofs.pairs.narrowed.Given as goal

-- the front is there in 8 bytes a pair, with room for the rest; it ascends, and the object before is its last
abbrev pub invariant-loop-obj : goal.invariant-loop-obj
invariant-loop-obj l =
    let numbers = objects_of (pairs_of l.list) in record {
      same : map narrow_pair_of l.narrow.items ≡ pairs_of (take l.obj-index l.list);
      len : vec_len l.narrow ≡ l.obj-index;
      room : vec_capacity l.narrow ≡ length l.list;
      front : IsAscending (take l.obj-index numbers);
      last : l.before ≡ slice_index (0 ∷ numbers) l.obj-index;
    }
