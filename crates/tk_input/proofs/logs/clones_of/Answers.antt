use Rattle.std.proofs.Common.{◌∷◌, [], ◌++◌, ℕ, ℤ, List, take, sym, ap, ◌∙◌, arith}
use Rattle.std.proofs.lemmas.List.{take_more}
use Rattle.tk_input.proofs.logs.clones_of.Goals as goal

pub loop-part-preserved : goal.loop-part-preserved
loop-part-preserved c =
    let row = c.args.row.now in
    let i = c.loop-part.part-index in
    record {
      same = c.push_reserved.ensures.items
          ∙ ap (λ (parts : List (List (ℕ × ℤ))). parts ++ c.in_ok-try_clone.field-0 ∷ []) c.loop-part.invariant.same
          ∙ ap (λ (part : List (ℕ × ℤ)). take i row ++ part ∷ []) (c.in_ok-try_clone.ensures ∙ c.part-item.is)
          ∙ sym (take_more row i c.part-item.result c.loop-part-test.true);
      len = omega (arith, c.push_reserved.ensures.len, c.loop-part.invariant.len);
      room = omega (arith, c.push_reserved.ensures.capacity, c.loop-part.invariant.room);
    }
