use Rattle.std.proofs.Common.{ℕ, ◌<◌, List, [], ◌∷◌, ◌++◌, length, ap, ap₂, sym, ◌∙◌, arith}
use Rattle.std.proofs.lemmas.List.{map-append, take_more}
use Rattle.tk_base.specs.Ascending.{numbers_of}
use Rattle.tk_base.specs.Pairs.{objects_of}
use Rattle.tk_coord.proofs.ValuesLemmas.{length-objects_of, object_at}
use Rattle.tk_coord.proofs.entries.objects_of.Goals as goal

pub loop-i-preserved : goal.loop-i-preserved
loop-i-preserved c =
    let objects = objects_of c.args.values.now in
    let within : c.loop-i.i < length objects = omega (arith, length-objects_of c.args.values.now, c.len-i-end.ensures.value, c.loop-i-test.true) in
    let here = object_at c.args.values.now c.loop-i.i (c.at.result.0.0, c.at.result.1) 0 c.at.ensures.value in
    record {
      same = ap numbers_of c.push_reserved.ensures.items
          ∙ map-append (λ o. o.0) c.loop-i.list.items (record { 0 = c.at.result.0.0 } ∷ [])
          ∙ ap₂ (λ (l : List ℕ) (o : ℕ). l ++ o ∷ []) c.loop-i.invariant.same (sym here)
          ∙ sym (take_more objects c.loop-i.i 0 within);
      len = omega (arith, c.push_reserved.ensures.len, c.loop-i.invariant.len);
      room = omega (arith, c.push_reserved.ensures.capacity, c.loop-i.invariant.room);
    }
