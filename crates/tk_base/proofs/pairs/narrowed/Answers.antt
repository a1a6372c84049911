use Rattle.std.proofs.Common.{◌<◌, ℤ, pos, length, get_or, arith, sym, ap, add-one}
use Rattle.std.specs.Prelude.{FitsSigned}
use Rattle.std.specs.Int.{w128}
use Rattle.std.proofs.lemmas.Int.{to_z-of_z, ints}
use Rattle.std.proofs.lemmas.List.{length-map}
use Rattle.tk_base.specs.declared.ids.Obj.{Obj}
use Rattle.tk_base.specs.Pairs.{pairs_of, objects_of}
use Rattle.tk_base.proofs.AscendingLemmas.{ascending_more}
use Rattle.tk_base.proofs.PairsLemmas.{objects_of-pairs_of, object_at, narrow_more}
use Rattle.tk_base.proofs.pairs.narrowed.Goals as goal

pub loop-obj-preserved : goal.loop-obj-preserved
loop-obj-preserved c =
    let loop = c.loop-obj in
    let list = c.args.list.now in
    let numbers = objects_of (pairs_of list) in
    let none : Obj × ℤ = (record { 0 = 0 }, pos 0) in
    let here : loop.obj-index < length list = c.loop-obj-test.true in
    let within : loop.obj-index < length numbers = omega (arith, ap length (objects_of-pairs_of list), length-map list (λ (p : Obj × ℤ). p.0.0)) in
    let object = object_at list loop.obj-index none here in
    let number = (get_or list loop.obj-index none).1 in
    let fits : FitsSigned w128 number = omega (arith, ints) in
    record {
      same = narrow_more loop.narrow.items c.push_reserved.new.self.items list loop.obj-index none c.in_ok-of.field-0 here
          c.push_reserved.ensures.items loop.invariant.same (rw (to_z-of_z w128 number fits) at c.in_ok-of.ensures.some);
      len = omega (arith, c.push_reserved.ensures.len, loop.invariant.len);
      room = omega (arith, c.push_reserved.ensures.capacity, loop.invariant.room);
      front = ascending_more numbers loop.obj-index within loop.invariant.front (omega (arith, object, loop.invariant.last));
      last = rw add-one (sym object);
    }
