use Rattle.std.proofs.Common.{◌≡◌, ◌∙◌, FitsSigned, arith, sym, false, true}
use Rattle.std.specs.Int.{w128}
use Rattle.std.proofs.lemmas.Int.{ints, to_z-of_z}
use Rattle.tk_base.specs.Ascending.{IsAscending}
use Rattle.tk_base.specs.Pairs.{objects_of, pairs_of}
use Rattle.tk_rows.specs.Factors.{factor_at}
use Rattle.tk_coord.proofs.BeginLemmas.{factors_ascend, factors_more, none_by}
use Rattle.tk_base.specs.Objects.{objects}
use Rattle.tk_border.proofs.RisingLemmas.{ascends, rises-objects}
use Rattle.tk_coord.proofs.opening.factors.Goals as goal

pub loop-place-init : goal.loop-place-init
loop-place-init c = record {
  same = rw c.in_ok-list.ensures.items (sym (none_by (factor_at c.args.table.now c.args.mon.0)));
  len = c.in_ok-list.ensures.len;
  room = c.in_ok-list.ensures.capacity;
}

pub loop-place-preserved : goal.loop-place-preserved
loop-place-preserved c =
    let fits : FitsSigned w128 c.at.result = omega (arith, ints, c.at.ensures.size) in record {
      same = factors_more (factor_at c.args.table.now c.args.mon.0) c.loop-place.place c.loop-place.list.items c.push_reserved.ensures.items c.loop-place.invariant.same
          (to_z-of_z w128 c.at.result fits ∙ c.at.ensures.value);
      len = omega (arith, c.push_reserved.ensures.len, c.loop-place.invariant.len);
      room = omega (arith, c.push_reserved.ensures.capacity, c.loop-place.invariant.room);
    }

pub unreachable-requires : goal.unreachable-requires
unreachable-requires c =
    let up : IsAscending (objects_of (pairs_of c.loop-place.list.items)) =
    factors_ascend (factor_at c.args.table.now c.args.mon.0) c.loop-place.place c.loop-place.list.items c.loop-place.invariant.same
    (ascends (objects c.loop-place.place) (rises-objects c.loop-place.place)) in
    let never : false ≡ true = c.in-Err.ensures.ascends.1 up in
    cc
