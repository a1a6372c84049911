use Rattle.std.proofs.Common.{◌≡◌, ℕ, ◌||◌, Bool, true, get_or, below_more, arith, sym, ap, ◌∙◌}
use Rattle.std.proofs.lemmas.List.Folds.{list_all_at}
use Rattle.tk_base.specs.Objects.{is_in}
use Rattle.tk_base.specs.Pairs.{objects_of}
use Rattle.tk_coord.proofs.SearchLemmas.{all_pass}
use Rattle.tk_coord.proofs.ValuesLemmas.{object_at, length-objects_of}
use Rattle.tk_coord.proofs.checks.are_of_either.Goals as goal

pub returns-then-not-is_of_either-clause-value : goal.returns-then-not-is_of_either-clause-value
returns-then-not-is_of_either-clause-value c =
    let either : ℕ → Bool = λ o. is_in c.args.first.now o || is_in c.args.second.now o in
    let here = object_at c.args.values.now c.loop-i.i (c.at.result.0.0, c.at.result.1) 0 c.at.ensures.value in
    sym (list_all_at either (objects_of c.args.values.now) c.loop-i.i 0 (omega (arith, length-objects_of c.args.values.now)) (ap either here ∙ sym c.is_of_either.ensures ∙ c.if-not-is_of_either.true))

pub loop-i-preserved : goal.loop-i-preserved
loop-i-preserved c =
    let either : ℕ → Bool = λ o. is_in c.args.first.now o || is_in c.args.second.now o in
    let here = object_at c.args.values.now c.loop-i.i (c.at.result.0.0, c.at.result.1) 0 c.at.ensures.value in
    below_more (λ k. either (get_or (objects_of c.args.values.now) k 0) ≡ true) c.loop-i.i c.loop-i.invariant (ap either here ∙ sym c.is_of_either.ensures ∙ c.if-not-is_of_either.false)

pub returns-clause-value : goal.returns-clause-value
returns-clause-value c =
    let either : ℕ → Bool = λ o. is_in c.args.first.now o || is_in c.args.second.now o in
    sym (all_pass either (objects_of c.args.values.now) 0 (λ k within. c.loop-i.invariant k (omega (arith, c.len-i-end.ensures.value, length-objects_of c.args.values.now))))
