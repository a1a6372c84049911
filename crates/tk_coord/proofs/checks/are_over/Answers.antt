use Rattle.std.proofs.Common.{◌≡◌, ℕ, not, List, get_or, below_more, eq-eqb, arith, sym, ap, ◌∙◌}
use Rattle.std.proofs.lemmas.Bool.{true≢false, eqb-true, not-false}
use Rattle.tk_base.specs.Pairs.{objects_of}
use Rattle.tk_base.proofs.EqualLemmas.{numbers_tell}
use Rattle.tk_coord.proofs.ContentLemmas.{not_same}
use Rattle.tk_coord.proofs.ElementLemmas.{same_elements}
use Rattle.tk_coord.proofs.ValuesLemmas.{length-objects_of, object_at}
use Rattle.tk_coord.proofs.checks.are_over.Goals as goal

pub returns-then-ne : goal.returns-then-ne
returns-then-ne c = sym (not_same (objects_of c.args.values.now) c.args.asked.now (λ e.
    let here = object_at c.args.values.now c.loop-i.i (c.at.result.0.0, c.at.result.1) 0 c.at.ensures.value in
    let same : c.at.result.0.0 ≡ c.at-in-loop-i.result.0 = sym here ∙ ap (λ (l : List ℕ). get_or l c.loop-i.i 0) e ∙ sym c.at-in-loop-i.ensures.value in
    absurd (true≢false (sym c.if-ne.true ∙ c.ne.ensures ∙ ap not (eq-eqb c.at.result.0.0 c.at-in-loop-i.result.0 same)))))

pub loop-i-preserved : goal.loop-i-preserved
loop-i-preserved c =
    let each : ℕ → Type 0 = λ k. get_or (objects_of c.args.values.now) k 0 ≡ get_or c.args.asked.now k 0 in
    let here = object_at c.args.values.now c.loop-i.i (c.at.result.0.0, c.at.result.1) 0 c.at.ensures.value in
    let same : c.at.result.0.0 ≡ c.at-in-loop-i.result.0 = eqb-true c.at.result.0.0 c.at-in-loop-i.result.0 (not-false _ (sym c.ne.ensures ∙ c.if-ne.false)) in
    below_more each c.loop-i.i c.loop-i.invariant (here ∙ same ∙ c.at-in-loop-i.ensures.value)

pub returns : goal.returns
returns c = sym ((numbers_tell (objects_of c.args.values.now) c.args.asked.now).1 (same_elements (objects_of c.args.values.now) c.args.asked.now 0
    (omega (arith, length-objects_of c.args.values.now, c.len.ensures.value, c.len-2.ensures.value, c.if-len.false))
    (λ k below. c.loop-i.invariant k (omega (arith, below, length-objects_of c.args.values.now, c.len-i-end.ensures.value, c.loop-i-test.false)))))
